-- Each call can be made in any state, and what both states mean afterwards.
-- Assumes nothing.
use Prim.Native.Nat.{ℕ, ◌≤◌}
use mathlib.Core.Bool.{false}
use mathlib.Core.Path.{◌≡◌, refl, sym, ap, ◌∙◌}
use mathlib.Core.List.{List, [], ◌∷◌, ◌++◌}
use native.Mathlib.Omega.{arith}
use lib.ListN.{length, take, drop, replicate}
use lib.Seq.{take_at}
use lib.Dec.{eqb}
use borrow.Author.Tests.{le-leb, eq-eqb}
use Rattle.std.specs.Prelude.{Result, Ok, Some}
use Rattle.octets.proofs.NumberBack.{Octets}
use Rattle.types.specs.declared.hal.PowerlinkError.{PowerlinkError}
use Rattle.section.specs.Write.{write_answer, overwritten}
use Rattle.error_entry.specs.declared.ErrorEntry.{ErrorEntry}
use Rattle.reporter.specs.Calls as reporter
use Rattle.reporter.specs.Calls.{Numbers, AnswerSizes}
use Rattle.reporter.specs.Layout.{reporter_length, head_of, new_bytes, raise_bytes, acknowledge_bytes}
use Rattle.reporter.specs.Rules.{Head, fresh_head, new_answer, raise_answer, after_raise, opened, answer_frame, answer_length, acknowledge_answer, after_acknowledge, ea_told}
use Rattle.reporter.specs.declared.AnswerFields.{AnswerFields}
use Rattle.reporter.specs.declared.RaiseError.{RaiseError}
use Rattle.reporter.specs.declared.ReadOutcome.{ReadOutcome}
use Rattle.collector.specs.Calls as collector
use Rattle.collector.specs.Layout as layout
use Rattle.collector.specs.Layout.{collector_length, box_of, account_of, fresh_bytes, register_bytes, take_bytes}
use Rattle.collector.specs.Rules.{with_book, with_ea, Account, Same, fresh_account, register_answer, after_register, book_answer, read_answer, read_cause, when_booked, after_booking, request_frame, response_in, status_in}
use Rattle.collector.specs.declared.ReadError.{ReadError}
use Rattle.collector.specs.declared.ReadOutcome.TheVariants as box
use Rattle.collector.specs.declared.ReadOutcome.{ReadOutcome as BoxOutcome}
use Rattle.collector.specs.declared.RequestFields.{RequestFields}
use Rattle.signaling.specs.Calls.{Origin, sent, Event, raised, answered, head_read, registered, box_read, requested, taken, hosted, Log, tally, ruled, World, Delivered, Reaches, node, Step, raise, answer, head_reads, register, box_reads, request, takes, hosts}
use Rattle.signaling.proofs.Arriving.{arrives_self}
use Rattle.signaling.proofs.Callable.{makes, raises, answers, hears, freshes, registers, books, asks, hands}
use Rattle.signaling.proofs.Frames.{Says}

abbrev pub world : List ℕ → List ℕ → Log → World
world s b l = record { head = s; box = b; log = l }

-- what both states mean after a log, to the head with ID i
pub record Knows (i : ℕ) (s b : List ℕ) (l : Log) (h : Head) (p : Account) : Type 0 where
  pub head_size : length s ≡ reporter_length
  pub box_size : length b ≡ collector_length
  pub means : head_of s ≡ h
  pub rules : ruled i l ≡ h
  pub place : account_of b i ≡ Some p

-- a call that can be made, and what it leaves
pub record Next (i : ℕ) (s b : List ℕ) (l : Log) (x : Event) (h : Head) (p : Account) : Type 0 where
  pub state : List ℕ
  pub box : List ℕ
  pub step : Step i (world s b l) x (world state box (x ∷ l))
  pub knows : Knows i state box (x ∷ l) h p

-- ---- writing

pub target : List ℕ
target = replicate 200 0

-- what a target holds once these octets are written to it
abbrev pub held : List ℕ → List ℕ
held bs = bs ++ drop (length bs) target

target_size : length target ≡ 200
unfolding target
target_size = refl

module _ (bs : List ℕ) (fits : length bs ≤ 200) where
  fits_target : length bs ≤ length target
  fits_target = rw target_size fits

  is_written : write_answer bs target ≡ Ok (length bs)
  unfolding write_answer
  is_written = rw (le-leb (length bs) (length target) fits_target)

  is_held : overwritten bs target ≡ held bs
  unfolding overwritten
  is_held = rw (le-leb (length bs) (length target) fits_target)

pub sent_whole : (bs : List ℕ) → take (length bs) (held bs) ≡ bs
sent_whole bs = take_at bs _ _ refl

-- ---- the start

pub record Started (i : ℕ) : Type 0 where
  pub head : List ℕ
  pub made : reporter.Makes (node i) (Ok tt) [] head
  pub fresh : collector.Fresh fresh_bytes
  pub next : Next i head fresh_bytes [] (registered i (Ok tt)) (fresh_head i) fresh_account
  pub box : Same (box_of next.box) (after_register (Ok tt) i (box_of fresh_bytes))

pub starting : (i : ℕ) → new_answer i ≡ Ok tt → register_answer i (box_of fresh_bytes) ≡ Ok tt → Started i
starting i ok free =
    let m = makes i [] ok in
    let r = rw free at (registers fresh_bytes i refl) in
    record {
      head = new_bytes (Ok tt) i [];
      made = m.0;
      fresh = freshes;
      next = record {
        state = new_bytes (Ok tt) i [];
        box = register_bytes (Ok tt) i fresh_bytes;
        step = register i (Ok tt) (register_bytes (Ok tt) i fresh_bytes) r.0;
        knows = record {
          head_size = m.1;
          box_size = r.1;
          means = m.0.head refl;
          rules = refl;
          place = r.0.box.accounts i ∙ rw (eq-eqb i i refl);
        };
      };
      box = r.0.box;
    }

module _ {i : ℕ} {s b : List ℕ} {l : Log} {h : Head} {p : Account} (k : Knows i s b l h p) where
  -- a call of the head: the box stays
  abbrev by_head : {x : Event} {after : List ℕ} {g : Head} → Step i (world s b l) x (world after b (x ∷ l)) → length after ≡ reporter_length
      → head_of after ≡ g → ruled i (x ∷ l) ≡ g → Next i s b l x g p
  by_head {after} step size means rules =
      record {
        state = after;
        box = b;
        step = step;
        knows = record { head_size = size; box_size = k.box_size; means = means; rules = rules; place = k.place };
      }

  -- a call of the box, or a frame of its host: the head stays
  abbrev by_box : {x : Event} {after : List ℕ} {q : Account} → Step i (world s b l) x (world s after (x ∷ l)) → length after ≡ collector_length
      → account_of after i ≡ Some q → ruled i (x ∷ l) ≡ ruled i l → Next i s b l x h q
  by_box {after} step size place same =
      record {
        state = s;
        box = after;
        step = step;
        knows = record { head_size = k.head_size; box_size = size; means = k.means; rules = same ∙ k.rules; place = place };
      }

  -- ---- the head's calls

  pub raising : (e : ErrorEntry) (r : Result Unit RaiseError) → Numbers e → raise_answer e h ≡ r → Next i s b l (raised e r) (after_raise r e h) p
  raising e r n ok =
      let q : raise_answer e (head_of s) ≡ r = rw k.means ok in
      let c = rw q at (raises s e k.head_size n) in
      by_head (raise e r (raise_bytes r e s) c.0) c.1 (c.0.head ∙ rw k.means) (rw (k.rules, ok))

  pub answering : (services : List ℕ) (f : AnswerFields) → AnswerSizes f → answer_length (length (opened h).batch) ≤ 200
      → Next i s b l (answered (Ok (length (answer_frame f (opened h)))) (held (answer_frame f (opened h)))) (opened h) p
  answering services f sizes small =
      let a = rw k.means at (answers services s f sizes target k.head_size) in
      let fits : length (answer_frame f (opened h)) ≤ 200 = rw (rw k.means at a.0.size) small in
      let c = rw (is_written (answer_frame f (opened h)) fits, is_held (answer_frame f (opened h)) fits) at a in
      by_head (answer services f _ _ target (held (answer_frame f (opened h))) c.0) c.1 (c.0.head ∙ rw k.means) (rw k.rules)

  pub hearing : (services : List ℕ) (o : Origin) (bs : List ℕ) (r : Result ReadOutcome PowerlinkError)
      → Delivered services 240 o bs (tally i l).requests → h.id ≡ i
      → acknowledge_answer (ea_told services i bs) h ≡ r → Next i s b l (head_read services o bs r) (after_acknowledge r h) p
  hearing services o bs r given same ok =
      let q : acknowledge_answer (ea_told services (head_of s).id bs) (head_of s) ≡ r =
      rw k.means (ap (λ (n : ℕ). acknowledge_answer (ea_told services n bs) h) same ∙ ok) in
      let c = rw q at (hears services s bs k.head_size) in
      by_head (head_reads services o bs r (acknowledge_bytes r s) given c.0) c.1 (c.0.head ∙ rw k.means) (rw (k.rules, ok))

  -- ---- the box's calls

  -- a frame that is not booked
  pub passing : (services : List ℕ) (o : Origin) (bs : List ℕ) (r : Result BoxOutcome ReadError) → Reaches services i o bs (tally i l).answers
      → read_answer services bs (box_of b) ≡ r
      → ((A : Type 0) (x y : A) → when_booked r x y ≡ y)
      → Next i s b l (box_read services o bs r) h p
  passing services o bs r given ok stays =
      let c : collector.Reads services bs r b b =
      record {
        answer = sym ok;
        cause = ap read_cause (sym ok);
        box = rw (stays _ (after_booking (response_in services bs) (status_in bs) (box_of b)) (box_of b)) (record { accounts = λ j. refl; vacant = refl });
        bytes = sym (stays _ _ b);
      } in
      by_box (box_reads services o bs r b given c) k.box_size k.place refl

  module _ (bs : List ℕ) (g : Head) (says : Says bs g) (from : g.id ≡ i) where
    read_as : (services : List ℕ) → read_answer services bs (box_of b) ≡ book_answer g.en g.batch p
    unfolding read_answer
    read_as services = rw (says.answer.status services, from, k.place, says.read, says.en, says.entries)

    -- it reaches the box as it was sent
    pub as_it_is : (services : List ℕ) (q : ℕ) → Delivered services i (sent q) bs (tally i l).answers → Reaches services i (sent q) bs (tally i l).answers
    as_it_is services q given = (bs, given, arrives_self bs says.answer.size)

    pub knowing : (services : List ℕ) (q : ℕ) → Reaches services i (sent q) bs (tally i l).answers → book_answer g.en g.batch p ≡ Ok box.Known
        → Next i s b l (box_read services (sent q) bs (Ok box.Known)) h p
    knowing services q given ok = passing services (sent q) bs (Ok box.Known) given (read_as services ∙ ok) (λ A x y. refl)

    -- the octets of the box when it has booked it, the same under every table
    abbrev booked : List ℕ
    booked = layout.booking_bytes (Ok (Some (node g.id))) (status_in bs) b

    -- the box books it, wherever it comes from
    pub books_it : Octets bs → book_answer g.en g.batch p ≡ Ok box.Booked
        → ((services : List ℕ) → collector.Reads services bs (Ok box.Booked) b booked)
        × Knows i s booked l h (with_ea g.en (with_book (p.book ++ g.batch) p))
    books_it octets ok =
        let c : (services : List ℕ) → collector.Reads services bs (Ok box.Booked) b booked × (length booked ≡ collector_length) =
        λ services. rw (read_as services, ok, says.answer.status services) at (books services b bs k.box_size octets) in (
          λ services. (c services).0,
          record {
            head_size = k.head_size;
            box_size = (c []).1;
            means = k.means;
            rules = k.rules;
            place = (c []).0.box.accounts i ∙ rw (says.answer.status [], from, eq-eqb i i refl, k.place, says.read, says.en, says.entries);
          },
        )

    pub booking : (services : List ℕ) (q : ℕ) → Reaches services i (sent q) bs (tally i l).answers → Octets bs
        → book_answer g.en g.batch p ≡ Ok box.Booked
        → Next i s b l (box_read services (sent q) bs (Ok box.Booked)) h (with_ea g.en (with_book (p.book ++ g.batch) p))
    booking services q given octets ok =
        let c = books_it octets ok in
        by_box (box_reads services (sent q) bs (Ok box.Booked) booked given (c.0 services)) c.1.box_size c.1.place refl

  -- another head is registered, and has a place of its own
  pub registering : (j : ℕ) → eqb i j ≡ false → register_answer j (box_of b) ≡ Ok tt
      → (n : Next i s b l (registered j (Ok tt)) h p) × (account_of n.box j ≡ Some fresh_account)
  registering j away ok =
      let c = rw ok at (registers b j k.box_size) in (
        by_box (register j (Ok tt) (register_bytes (Ok tt) j b) c.0) c.1 (c.0.box.accounts i ∙ rw away k.place) refl,
        c.0.box.accounts j ∙ rw (eq-eqb j j refl),
      )

  pub asking : (j : ℕ) (q : Account) → account_of b j ≡ Some q → (f : RequestFields) → length f.source_mac.0 ≡ 6
      → Next i s b l (requested j (Ok (length (request_frame j f q.ea))) (held (request_frame j f q.ea))) h p
  asking j q there f six =
      let a = rw there at (asks b j f six target) in
      let fits : length (request_frame j f q.ea) ≤ 200 = rw (a.size q.ea) (omega arith) in
      let c = rw (is_written (request_frame j f q.ea) fits, is_held (request_frame j f q.ea) fits) at a in
      by_box (request j f _ target (held (request_frame j f q.ea)) c) k.box_size k.place refl

  pub handing : (e : ErrorEntry) (es : List ErrorEntry) → p.book ≡ e ∷ es → Next i s b l (taken i (Ok e)) h (with_book es p)
  handing e es first =
      let c = rw (k.place, first) at (hands b i k.box_size) in
      by_box (takes i (Ok e) (take_bytes (Ok e) i b) c.0) c.1
      (c.0.box.accounts i ∙ rw (eq-eqb i i refl, k.place, first))
      refl

  -- a frame of the box's host
  pub hosting : (bs : List ℕ) → ((services : List ℕ) → ea_told services i bs ≡ Ok (Some p.ea)) → Next i s b l (hosted bs) h p
  hosting bs tells = by_box (hosts bs (λ services ea e. rw k.place (cc (tells services)))) k.box_size k.place refl
