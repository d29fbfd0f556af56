-- The exchanges of a host in C are exchanges of `signaling`.
-- Assumes nothing.
use Prim.Native.Nat.{ℕ}
use mathlib.Core.Bool.{Bool, true, false}
use mathlib.Core.Path.{◌≡◌, refl, sym, ap, ◌∙◌}
use mathlib.Core.List.{List, [], ◌∷◌}
use lib.ListN.{length}
use lib.Dec.{eqb, leb}
use borrow.Author.Tests.{eqb-true, eqb-false}
use Rattle.section.proofs.CausesTell.{refused_number}
use Rattle.std.specs.Prelude.{Result, Ok, Err, Option}
use Rattle.types.specs.Codes.{pick}
use Rattle.types.specs.Modes.{mode_of}
use Rattle.types.specs.States.{state_of}
use Rattle.types.specs.declared.states.NmtState.{NmtState}
use Rattle.section.specs.Write.{Coded}
use Rattle.error_entry.specs.declared.ErrorEntry.{ErrorEntry}
use Rattle.reporter.specs.declared.RaiseError.TheVariants.{EntryInvalid, StatusEntry, QueueFull}
use Rattle.collector.specs.CausesTell as box
use Rattle.collector.specs.Layout.{account_of, box_of}
use Rattle.collector.specs.Rules.{Account, request_cause, read_answer, read_cause}
use Rattle.collector.specs.declared.ReadError.TheVariants.{BookFull}
use Rattle.collector.specs.declared.RequestFields.{RequestFields}
use Rattle.c_values.specs.Answers.{RowTold}
use Rattle.powerlink.specs.Collecting.{request_by, request_fields}
use Rattle.powerlink.specs.Writing.{stated, WritesCoded}
use Rattle.signaling.specs.Calls.{Origin, sent, foreign, Event, raised, answered, requested, Log, World, Step}
use Rattle.signaling.specs.Exchanges.{Quiet, AnswerAgain, RequestAgain, NoRepeat, Quietly, still, next, again, Exchange, Exchanges, done, more, Found}
use Rattle.signaling.proofs.Facts.{either}
use Rattle.c_signaling.specs.Calls as calls
use Rattle.c_signaling.specs.Calls.{Site, world_of, CStep, Translated, nothing, one}
use Rattle.c_signaling.specs.Exchanges as ex
use Rattle.c_signaling.specs.Exchanges.{CQuiet, CAnswerAgain, CRequestAgain, CNoRepeat, CQuietly, CExchange, CExchanges, CFound}
use Rattle.c_signaling.specs.Log.{Raising, Call, reporter_raise, reporter_answer, reporter_read, collector_register, collector_read, collector_request, collector_take, host_sends, raised_entry, raise_events, answer_events, request_events, reading, events_of}
use Rattle.c_signaling.proofs.Steps.{called, the_step}
use Rattle.c_signaling.proofs.Told.{unasked_number, box_row}
use Rattle.types.specs.declared.hal.PowerlinkError.{PowerlinkError}
use Rattle.types.specs.declared.error_mode.UnknownMode.{UnknownMode}
use Rattle.types.specs.declared.error_mode.ErrorEntryMode.{ErrorEntryMode}
use Rattle.collector.specs.declared.ReadOutcome.{ReadOutcome}
use Rattle.collector.specs.declared.ReadError.{ReadError}

-- ---- what answers 0 is written

-- and what does not, is refused
not_0 : {X : Type 0} (n : ℕ) → 0 ≡ n → eqb n 0 ≡ false → X
not_0 n e h = absurd (eqb-false n 0 h (sym e))

module _ {i : ℕ} {w v : World} where
  answer_written : (m : Result NmtState PowerlinkError) (k : ℕ) (f : NmtState → Coded) (t t' : List ℕ) (n n' o o' : ℕ) → WritesCoded (stated k m f) 0 t t' n n' o o'
      → Translated i w (answer_events m 0 t' n') v → Step i w (answered (Ok n') t') v
  answer_written (Err x) k f t t' n n' o o' c s = not_0 _ c.cause (refused_number (leb k (length t)) x)
  answer_written (Ok m) k f t t' n n' o o' c s = the_step s

  request_written : (j : ℕ) (f : NmtState → RequestFields) (m : Result NmtState PowerlinkError) (p : Option Account) (t t' : List ℕ) (n n' o o' : ℕ)
      → RowTold (request_cause (request_by j f m t p)) 0 n n' o o'
      → Translated i w (request_events j m 0 t' n') v → Step i w (requested j (Ok n') t') v
  request_written j f (Err x) p t t' n n' o o' c s = not_0 _ c.cause (unasked_number x t p)
  request_written j f (Ok m) p t t' n n' o o' c s = the_step s

answer_0 : {i s n : ℕ} {t : List ℕ} {w v : Site} → CStep i w (reporter_answer s 0 t n) v → Step i (world_of w) (answered (Ok n) t) (world_of v)
answer_0 {w} (calls.answers services from to ec pr rs field s r after t t' n n' o o' k) =
    answer_written (state_of s) _ _ t t' n n' o o' k.writes (called {w = w} (calls.answers services from to ec pr rs field s 0 after t t' n n' o o' k))

request_0 : {i j s n : ℕ} {t : List ℕ} {w v : Site} → CStep i w (collector_request j s 0 t n) v
    → Step i (world_of w) (requested j (Ok n) t) (world_of v)
request_0 {w} (calls.requests j from version s r t t' n n' o o' k) =
    request_written j (request_fields from version) (state_of s) (account_of w.box j) t t' n n' o o' k.told
    (called {w = w} (calls.requests j from version s 0 t t' n n' o o' k))

-- ---- quiet calls

abbrev Each : (Event → Type 0) → Log → Type 0
Each P [] = Unit {0}
Each P (x ∷ l) = P x × Each P l

-- a Raise that does not answer 0
module _ (i : ℕ) where
  refused_quiet : (e : ErrorEntry) (invalid status : Bool) → Quiet i (raised e (pick invalid (Err EntryInvalid) (pick status (Err StatusEntry) (Err QueueFull))))
  refused_quiet e true status = tt
  refused_quiet e false true = tt
  refused_quiet e false false = tt

  raise_quiet : (g : Raising) (m : Result ErrorEntryMode UnknownMode) (r : ℕ) → (r ≡ 0 → ⊥) → Each (Quiet i) (raise_events g m r)
  raise_quiet g (Err x) r h = tt
  raise_quiet g (Ok m) r h =
      either (eqb r 0) (λ t. absurd (h (eqb-true r 0 t))) (λ t. (rw t (refused_quiet (raised_entry g m) (eqb r 8) (eqb r 23)), tt))

  answer_quiet : (m : Result NmtState PowerlinkError) (r : ℕ) (t : List ℕ) (n : ℕ) → Each (Quiet i) (answer_events m r t n)
  answer_quiet (Err x) r t n = tt
  answer_quiet (Ok k) r t n = (tt, tt)

  request_quiet : (j : ℕ) (m : Result NmtState PowerlinkError) (r : ℕ) (t : List ℕ) (n : ℕ) → Each (Quiet i) (request_events j m r t n)
  request_quiet j (Err x) r t n = tt
  request_quiet j (Ok k) r t n = (tt, tt)

  quiet_events : (x : Call) → CQuiet x → Each (Quiet i) (events_of x)
  quiet_events (reporter_raise g r) h = raise_quiet g (mode_of g.mode) r h
  quiet_events (reporter_answer s r t n) h = answer_quiet (state_of s) r t n
  quiet_events (reporter_read services from bs r k o) h = (tt, tt)
  quiet_events (collector_register j r) h = (tt, tt)
  quiet_events (collector_read services (sent p) bs r k o) h = absurd h
  quiet_events (collector_read services foreign bs r k o) h = (tt, tt)
  quiet_events (collector_request j s r t n) h = request_quiet j (state_of s) r t n
  quiet_events (collector_take j r vs) h = (tt, tt)
  quiet_events (host_sends bs) h = (tt, tt)

-- ---- and lists of them

module _ {i : ℕ} {Again : Event → Type 0} where
  passing : {w v u : World} {es : Log} → Quietly i Again w v → Translated i v es u → Each (Quiet i) es → Quietly i Again w u
  passing l nothing k = l
  passing l (one s) k = next l s k.0

  repeating : {w v u : World} {es : Log} → Quietly i Again w v → Translated i v es u → Each Again es → Quietly i Again w u
  repeating l nothing k = l
  repeating l (one s) k = again l s k.0

  quietly : {Repeat : Call → Type 0} {w v : Site} → ((x : Call) → Repeat x → Each Again (events_of x)) → CQuietly i Repeat w v
      → Quietly i Again (world_of w) (world_of v)
  quietly f ex.still = still
  quietly f (ex.next {x = x} l s k) = passing (quietly f l) (called s) (quiet_events i x k)
  quietly f (ex.again {x = x} l s k) = repeating (quietly f l) (called s) (f x k)

none_again : (x : Call) → CNoRepeat x → Each NoRepeat (events_of x)
none_again x k = absurd k

answer_again : (p : ℕ) (x : Call) → CAnswerAgain p x → Each (AnswerAgain p) (events_of x)
answer_again p x k = rw k.5 ((_, _, _, refl), tt)

request_again : (q : ℕ) (bs : List ℕ) (x : Call) → CRequestAgain q bs x → Each (RequestAgain q bs) (events_of x)
request_again q bs x k = rw k.4 ((_, _, refl), tt)

-- ---- exchanges

exchange : {i : ℕ} {w v : Site} → CExchange i w v → Exchange i (world_of w) (world_of v)
exchange x =
    record {
      length₁ = x.length₁;
      answer = x.answer;
      w₁ = world_of x.w₁;
      answers = answer_0 x.answers;
      w₂ = world_of x.w₂;
      quiet₁ = quietly none_again x.quiet₁;
      p = x.p;
      answer_read = x.answer_read;
      box_services = x.box_services;
      box_says = box.read_told (reading x.box_number x.box_outcome x.box_octet);
      w₃ = world_of x.w₃;
      box_reads = the_step (called x.box_reads);
      new_answer = x.new_answer;
      w₄ = world_of x.w₄;
      quiet₂ = quietly (answer_again x.p) x.quiet₂;
      length₂ = x.length₂;
      request = x.request;
      w₅ = world_of x.w₅;
      requests = request_0 x.requests;
      w₆ = world_of x.w₆;
      quiet₃ = quietly none_again x.quiet₃;
      q = x.q;
      request_read = x.request_read;
      head_services = x.head_services;
      head_says = _;
      w₇ = world_of x.w₇;
      head_reads = the_step (called x.head_reads);
      new_request = x.new_request;
      ea = x.ea;
      mine = x.mine;
      quiet₄ = quietly (request_again x.q x.request_read) x.quiet₄;
    }

pub exchanges : {i n : ℕ} {w v : Site} → CExchanges i n w v → Exchanges i n (world_of w) (world_of v)
exchanges (ex.done l) = done (quietly none_again l)
exchanges (ex.more l x xs) = more (quietly none_again l) (exchange x) (exchanges xs)

-- ---- 12 is a full book, and no other number is

full_12 : {i r k o : ℕ} {services : List ℕ} {from : Origin} {bs : List ℕ} {w v : Site} → CStep i w (collector_read services from bs r k o) v
    → box.read_told (reading r k o) ≡ Err BookFull → r ≡ 12
full_12 {w} (calls.box_reads services from bs r k k' o o' after d y) e =
    y.told.cause ∙ ap (λ (a : Result ReadOutcome ReadError). (read_cause a).number) (sym (box_row (read_answer services bs (box_of w.box)) r k k' o o' y.told) ∙ e)

pub found : {i n : ℕ} {w v : Site} (xs : CExchanges i n w v) → CFound xs → Found (exchanges xs)
unfolding exchanges exchange
found (ex.done l) h = tt
found (ex.more l x xs) h = (λ e. h.0 (full_12 x.box_reads e), found xs h.1)

is_full : (r k o : ℕ) → r ≡ 12 → box.read_told (reading r k o) ≡ Err BookFull
is_full r k o e = rw e

pub is_found : {i n : ℕ} {w v : Site} (xs : CExchanges i n w v) → Found (exchanges xs) → CFound xs
unfolding exchanges exchange
is_found (ex.done l) h = tt
is_found (ex.more l x xs) h = (λ e. h.0 (is_full x.box_number x.box_outcome x.box_octet e), is_found xs h.1)
