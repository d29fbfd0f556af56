-- The head's calls keep the invariant.
-- Assumes nothing.
use Prim.Native.Nat.{ℕ, zero, suc, ◌≤◌}
use mathlib.Core.Bool.{Bool, true, false, not, ◌&&◌, beq, true≢false}
use mathlib.Core.Path.{◌≡◌, refl, sym, ap, ◌∙◌}
use mathlib.Core.Logic.{inl, inr}
use mathlib.Core.List.{List, [], ◌∷◌, ◌++◌}
use lib.ListN.{length, take, drop, take-append-drop}
use lib.Dec.{ltb}
use Rattle.std.proofs.lemmas.Bool.{and_parts}
use Rattle.std.specs.Prelude.{Result, Ok, Err, Option, Some, None, slice_get}
use Rattle.std.proofs.lemmas.Option.{slice_get_within}
use Rattle.types.specs.Codes.{pick}
use Rattle.types.specs.declared.hal.PowerlinkError.{PowerlinkError}
use Rattle.error_entry.specs.declared.ErrorEntry.{ErrorEntry}
use Rattle.reporter.specs.Calls.{Numbers}
use Rattle.reporter.specs.Rules.{with_new_batch, queue_length, batch_length, Head, is_raisable, raise_by, raise_answer, after_raise, is_empty, opens, opened, ea_answer, acknowledge_answer, after_acknowledge, ea_told}
use Rattle.reporter.specs.declared.RaiseError.{RaiseError}
use Rattle.reporter.specs.declared.ReadOutcome.TheVariants.{Closed, Kept}
use Rattle.collector.specs.Rules.{en_in}
use Rattle.signaling.specs.Calls.{sent, raised, answered, Tally, on_entries, on_answers, on_requests, on_ruled, accepts, sends, gives, becomes, answers, adds}
use Rattle.signaling.proofs.Facts.{beq_same, beq_other, beq_true, at_snoc, join_more, no_batch, is_cons}
use Rattle.signaling.proofs.Frames.{Good, Says}
use Rattle.signaling.proofs.Invariant.{en_said, batch_said, Inv}
use Rattle.signaling.proofs.Transit.{answers_open, answers_send, answers_closed, requests_open, requests_later, requests_fresh, requests_closed}

-- ---- entries

good_append : (a b : List ErrorEntry) → Good a → Good b → Good (a ++ b)
good_append [] b g k = k
good_append (e ∷ a) b g k = (g.0, good_append a b g.1 k)

good_take : (n : ℕ) (a : List ErrorEntry) → Good a → Good (take n a)
good_take zero a g = tt
good_take (suc n) [] g = tt
good_take (suc n) (e ∷ a) g = (g.0, good_take n a g.1)

good_drop : (n : ℕ) (a : List ErrorEntry) → Good a → Good (drop n a)
good_drop zero a g = g
good_drop (suc n) [] g = tt
good_drop (suc n) (e ∷ a) g = good_drop n a g.1

raised_by : (good status room : Bool) → Ok tt ≡ raise_by good status room → (good ≡ true) × (status ≡ false)
raised_by true true room e = absurd (true≢false cc)
raised_by true false room e = (refl, refl)
raised_by false status room e = absurd (true≢false cc)

-- what is raised may be
abbrev MayBeRaised : ErrorEntry → Type 0
MayBeRaised e = (is_raisable e ≡ true) × (e.entry_type.is_status_entry ≡ false)

raisable : (e : ErrorEntry) (h : Head) → Ok tt ≡ raise_answer e h → MayBeRaised e
unfolding raise_answer
raisable e h a = raised_by (is_raisable e) e.entry_type.is_status_entry (ltb (length h.waiting) queue_length) a

-- what an answer that is sent opens
abbrev pub opening : Tally → Tally
opening c = on_ruled (answers (Ok 0) (length c.answers.frames)) c

module _ {i : ℕ} {ea : Bool} {book : List ErrorEntry} {c : Tally} (t : Inv i ea book c) where
  abbrev h : Head
  h = c.ruled.head

  -- ---- Raise

  raise_joins : (e : ErrorEntry) → MayBeRaised e → Numbers e
      → Inv i ea book (on_entries (accepts (Ok tt) e) (on_ruled (becomes (after_raise (Ok tt) e)) c))
  raise_joins e may n =
      record {
        id = t.id;
        batch = t.batch;
        waiting = good_append h.waiting (e ∷ []) t.waiting ((may.0, may.1, n), tt);
        source = t.source;
        answers = t.answers;
        turned = t.turned;
        requests = t.requests;
        idle = t.idle;
        since = t.since;
        total = join_more (c.entries.handed_out ++ book) (pick c.ruled.is_booked [] h.batch) h.waiting (e ∷ []) t.total;
        room = t.room;
      }

  pub raise_keeps : (e : ErrorEntry) (r : Result Unit RaiseError) → r ≡ raise_answer e h → Numbers e → Inv i ea book (adds i (raised e r) c)
  raise_keeps e (Ok _) a n = rw (← a) (raise_joins e (raisable e h a) n)
  raise_keeps e (Err x) a n = rw (← a) t

  -- ---- Answer

  -- no batch was open and w waits: from now on the batch is open and not booked
  open_new : (x : ErrorEntry) (w : List ErrorEntry) → h.batch ≡ [] → h.waiting ≡ x ∷ w
      → Inv i ea book (on_ruled (λ s. record {
        head = with_new_batch h;
        opened_at = length c.answers.frames;
        is_booked = false;
      }) c)
  open_new x w eb ew =
      let same : ea ≡ h.en = t.idle eb in
      record {
        id = t.id;
        batch = good_take batch_length h.waiting t.waiting;
        waiting = good_drop batch_length h.waiting t.waiting;
        source = t.source;
        answers = answers_open t.answers same (take batch_length h.waiting);
        turned = t.turned;
        requests = requests_open t.requests eb (not h.en) (take batch_length h.waiting);
        idle = λ e. is_cons (ap (λ (l : List ErrorEntry). take batch_length l) ew) e;
        since = sym (beq_other h.en) ∙ ap (λ (b : Bool). beq b (not h.en)) (sym same);
        total = cc (take-append-drop batch_length h.waiting, no_batch c.ruled.is_booked h.batch eb, t.total);
        room = t.room;
      }

  open_by : (b w : List ErrorEntry) → h.batch ≡ b → h.waiting ≡ w → Inv i ea book (opening c)
  unfolding opened
  open_by [] [] eb ew = let o : opens h ≡ false = rw (eb, ew) in rw o t
  open_by (x ∷ b) w eb ew = let o : opens h ≡ false = rw eb in rw o t
  open_by [] (x ∷ w) eb ew = let o : opens h ≡ true = rw (eb, ew) in rw o (open_new x w eb ew)

  answer_sends : (bs : List ℕ) → Says bs h → Inv i ea book (on_answers (sends (λ fs. fs ++ (bs ∷ []))) c)
  unfolding en_said batch_said
  answer_sends bs says =
      record {
        id = t.id;
        batch = t.batch;
        waiting = t.waiting;
        source = λ p a e.
            elim (at_snoc c.answers.frames bs a p e) [
              | inl y ↦ t.source p a y.1
              | inr y ↦ rw (← y.1, ← t.id) says.answer
            ];
        answers = answers_send t.answers bs (ap en_in says.read ∙ says.en) says.entries;
        turned = t.turned;
        requests = t.requests;
        idle = t.idle;
        since = t.since;
        total = t.total;
        room = t.room;
      }

  -- ---- the head reads

  module _ (services : List ℕ) (q : ℕ) (bs : List ℕ) (le : c.requests.at ≤ q) (at : slice_get c.requests.frames q ≡ Some bs) where
    head_passes : Inv i ea book (on_requests (gives (sent q)) c)
    head_passes =
        record {
          id = t.id;
          batch = t.batch;
          waiting = t.waiting;
          source = t.source;
          answers = t.answers;
          turned = t.turned;
          requests = requests_later t.requests q le (slice_get_within c.requests.frames q bs at);
          idle = t.idle;
          since = t.since;
          total = t.total;
          room = t.room;
        }

    head_closes : ea_told services i bs ≡ Ok (Some h.en)
        → Inv i ea book (on_requests (gives (sent q)) (on_ruled (becomes (λ g. after_acknowledge (Ok Closed) g)) c))
    head_closes me =
        let (same, past) = requests_fresh t.requests q bs le at services me in
        let was : c.ruled.is_booked ≡ true = t.since ∙ ap (λ (b : Bool). beq b h.en) same ∙ beq_same h.en in
        record {
          id = t.id;
          batch = tt;
          waiting = t.waiting;
          source = t.source;
          answers = answers_closed t.answers;
          turned = t.turned;
          requests = requests_closed t.requests q le (slice_get_within c.requests.frames q bs at) past;
          idle = λ e. same;
          since = t.since;
          total = rw was (rw was at t.total);
          room = t.room;
        }

    head_by : (x b : Bool) → ea_told services i bs ≡ Ok (Some x) → not (is_empty h.batch) && beq h.en x ≡ b
        → Inv i ea book (on_requests (gives (sent q)) (on_ruled (becomes (λ g. after_acknowledge (Ok (pick b Closed Kept)) g)) c))
    head_by x false me e = head_passes
    head_by x true me e =
        head_closes (me ∙ ap (λ y. Ok (Some y)) (sym (beq_true h.en x (and_parts (not (is_empty h.batch)) (beq h.en x) e).1)))

    pub head_reads_lem : (s : Result (Option Bool) PowerlinkError) → ea_told services i bs ≡ s
        → Inv i ea book (on_requests (gives (sent q)) (on_ruled (becomes (λ g. after_acknowledge (acknowledge_answer s g) g)) c))
    unfolding ea_answer
    head_reads_lem (Err e) me = head_passes
    head_reads_lem (Ok None) me = head_passes
    head_reads_lem (Ok (Some x)) me = head_by x _ me refl

pub opened_keeps : {i : ℕ} {ea : Bool} {book : List ErrorEntry} {c : Tally} → Inv i ea book c → Inv i ea book (opening c)
opened_keeps {c} t = open_by t c.ruled.head.batch c.ruled.head.waiting refl refl

-- an answer that is not refused: what it opens, and that it is sent
pub answer_written : {i : ℕ} {ea : Bool} {book : List ErrorEntry} {c : Tally} (t : Inv i ea book c) (n : ℕ) (bs : List ℕ)
    → Says (take n bs) (opened c.ruled.head) → Inv i ea book (adds i (answered (Ok n) bs) c)
answer_written t n bs says = answer_sends (opened_keeps t) (take n bs) says
