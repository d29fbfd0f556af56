-- Status entries among the entries of an answer make no difference to a box.
-- Assumes nothing.
use Prim.Native.Nat.{ℕ, zero, suc, ◌+◌, ◌*◌, ◌≤◌, ◌<◌}
use mathlib.Core.Bool.{Bool, true, false, true≢false}
use mathlib.Core.Path.{◌≡◌, refl, sym, ap, ◌∙◌}
use mathlib.Core.Logic.{◌⊎◌, inl, inr}
use mathlib.Core.List.{List, [], ◌∷◌, ◌++◌, append_assoc}
use native.Mathlib.Omega.{arith}
use lib.ListN.{length, get_or, take, drop, length-append, length-take, length-drop, take-append-drop, get_or-append}
use lib.Seq.{drop_at, drop-drop, take-append-add, drop-append-add}
use lib.Dec.{leb}
use borrow.Author.Tests.{le-leb, lt-leb}
use Rattle.std.proofs.lemmas.Bool.{cases_lt}
use Rattle.std.specs.Prelude.{Result}
use Rattle.types.specs.Codes.{need}
use Rattle.types.specs.declared.error_mode.ErrorEntryMode.{ErrorEntryMode}
use Rattle.types.specs.declared.error_mode.ErrorEntryMode.TheVariants.{Terminator, ErrorActive, ErrorCleared, EventOccurred}
use Rattle.error_entry.specs.Entry.{entry_of}
use Rattle.error_entry.specs.declared.ErrorEntry.{ErrorEntry}
use Rattle.error_entry.proofs.Front.{entry_front}
use Rattle.status_response.specs.Steps.{unless_terminator, entries_in, status_entries}
use Rattle.collector.specs.Calls.{Reads}
use Rattle.collector.specs.Rules.{bookable, booked_entries, read_answer, response_in, response_in_answer, status_payload, status_in}
use Rattle.collector.specs.declared.ReadError.{ReadError}
use Rattle.collector.specs.declared.ReadOutcome.{ReadOutcome as BoxOutcome}
use Rattle.signaling.specs.Arrival.{IsASnd, entries_at, IsEntry, IsStatusEntry, Ends, Among, put, keep, end, Arrives, put_in}
use Rattle.signaling.proofs.Fronts.{Agree, frames_agree, fields_agree}

-- ---- the entries

is_entry : {A : Type 0} (m : ErrorEntryMode) (a b : A) → (m ≡ Terminator → ⊥) → unless_terminator m a b ≡ a
is_entry Terminator a b ne = absurd (ne refl)
is_entry ErrorActive a b ne = refl
is_entry ErrorCleared a b ne = refl
is_entry EventOccurred a b ne = refl

-- an entry and what follows it
first_entry : (n : ℕ) (e m : List ℕ) → IsEntry e → entries_in (suc n) (e ++ m) ≡ entry_of e ∷ entries_in n m
first_entry n e m y =
    let h : 20 ≤ length (e ++ m) = omega (arith, length-append e m, y.size) in
    rw (le-leb 20 (length (e ++ m)) h, entry_front e m (omega (arith, y.size)), drop_at e m 20 y.size)
    (is_entry (entry_of e).entry_type.mode (entry_of e ∷ entries_in n m) [] (λ over. y.mode (rw over)))

-- reading ends
abbrev no_entries : List ErrorEntry
no_entries = []

same_none : (b : Bool) → need b [] [] ≡ no_entries
same_none true = refl
same_none false = refl

none_here : (n : ℕ) (l : List ℕ) → Ends l → entries_in n l ≡ []
none_here zero l y = refl
none_here (suc n) l (inl few) = rw (lt-leb 20 (length l) few)
none_here (suc n) l (inr over) = rw over (same_none (leb 20 (length l)))

-- whatever bounds there are, as long as they do not end the reading
among_same : {l m : List ℕ} → Among l m → (n k : ℕ) → length l ≤ n → length m ≤ k → bookable (entries_in k m) ≡ bookable (entries_in n l)
among_same (put {l} {m} e y r) n zero hn hk = absurd (omega (arith, length-append e m, y.entry.size))
among_same (put {l} {m} e y r) n (suc k) hn hk =
    rw (first_entry k e m y.entry, y.status) (among_same r n k hn (omega (arith, length-append e m, y.entry.size)))
among_same (keep {l} {m} e y r) n zero hn hk = absurd (omega (arith, length-append e m, y.size))
among_same (keep {l} {m} e y r) zero (suc k) hn hk = absurd (omega (arith, length-append e l, y.size))
among_same (keep {l} {m} e y r) (suc n) (suc k) hn hk =
    let same = among_same r n k (omega (arith, length-append e l, y.size)) (omega (arith, length-append e m, y.size)) in
    rw (first_entry k e m y, first_entry n e l y, same)
among_same (end {l} {m} a b) n k hn hk = rw (none_here k m b, none_here n l a)

-- ---- a whole frame

module _ {f given : List ℕ} (y : Arrives f given) where
  agrees : (l : List ℕ) (i : ℕ) → i < entries_at → get_or (y.front ++ l) i 0 ≡ get_or y.front i 0
  agrees l i h = get_or-append y.front l 0 i (omega (arith, y.size))

  pub agree : Agree f given
  agree =
      rw (y.is_sent, y.is_given)
      (record {
        left = omega (arith, length-append y.front y.behind, y.size);
        right = omega (arith, length-append y.front y.arrived, y.size);
        at = λ i h. agrees y.behind i h ∙ sym (agrees y.arrived i h);
      })

  -- the entries begin behind the front
  behind_front : (l : List ℕ) → drop 14 (drop 18 (y.front ++ l)) ≡ l
  behind_front l = drop-drop 14 18 (y.front ++ l) ∙ drop_at y.front l 32 y.size

  long : (l : List ℕ) → length l ≤ length (drop 18 (y.front ++ l))
  long l = omega (arith, length-drop 18 (y.front ++ l), length-append y.front l, y.size)

  entries : booked_entries (drop 18 given) ≡ booked_entries (drop 18 f)
  unfolding booked_entries status_entries
  entries =
      rw (y.is_sent, y.is_given, behind_front y.behind, behind_front y.arrived)
      (among_same y.among (length (drop 18 (y.front ++ y.behind))) (length (drop 18 (y.front ++ y.arrived))) (long y.behind)
      (long y.arrived))

  -- ---- all that a box goes by

  pub said_same : status_in given ≡ status_in f
  said_same = rw (fields_agree agree, entries)

  module _ (services : List ℕ) (k : IsASnd f) where
    pub response_same : response_in services given ≡ response_in services f
    response_same = ap response_in_answer (frames_agree agree services k)

    -- a reading of what is given is one of what was sent
    pub reads_sent : {r : Result BoxOutcome ReadError} {s after : List ℕ} → Reads services given r s after → Reads services f r s after
    unfolding read_answer
    reads_sent {r} {s} {after} c =
        record {
          answer = rw (response_same, said_same) at c.answer;
          cause = rw (response_same, said_same) at c.cause;
          box = rw (response_same, said_same) at c.box;
          bytes = rw (response_same, said_same) at c.bytes;
        }

-- ---- nothing put in, or one entry more

is_terminator : (m : ErrorEntryMode) → (m ≡ Terminator) ⊎ (m ≡ Terminator → ⊥)
is_terminator Terminator = inl refl
is_terminator ErrorActive = inr (λ e. absurd (true≢false cc))
is_terminator ErrorCleared = inr (λ e. absurd (true≢false cc))
is_terminator EventOccurred = inr (λ e. absurd (true≢false cc))

-- the entry that octets begin with, if they do not end the reading
begins : (l : List ℕ) → Ends l ⊎ IsEntry (take 20 l)
begins l =
    elim (cases_lt (length l) 20) [
      | inl few ↦ inl (inl few)
      | inr more ↦
          elim (is_terminator (entry_of l).entry_type.mode) [
            | inl over ↦ inl (inr over)
            | inr entry ↦
                let size : length (take 20 l) ≡ 20 = omega (arith, length-take 20 l) in
                let same : entry_of l ≡ entry_of (take 20 l) =
                ap entry_of (sym (take-append-drop 20 l)) ∙ entry_front (take 20 l) (drop 20 l) (omega arith) in
                inr (record { size = size; mode = λ over. entry (rw (same, over)) })
          ]
    ]

among_self : (n : ℕ) (l : List ℕ) → length l ≤ n → Among l l
among_self zero l h = end {l = l} {m = l} (inl (omega arith)) (inl (omega arith))
among_self (suc n) l h =
    elim (begins l) [
      | inl over ↦ end {l = l} {m = l} over over
      | inr is ↦
          let all : Among (take 20 l ++ drop 20 l) (take 20 l ++ drop 20 l) =
          keep (take 20 l) is (among_self n (drop 20 l) (omega (arith, length-drop 20 l, length-take 20 l, is.size))) in
          rw (take-append-drop 20 l) at all
    ]

-- one entry more, before those of m from the n-th on
abbrev putting : ℕ → List ℕ → List ℕ → List ℕ
putting n e m = take (20 * n) m ++ (e ++ drop (20 * n) m)

put_behind : (n : ℕ) (e x m : List ℕ) → length x ≡ 20 → putting (suc n) e (x ++ m) ≡ x ++ putting n e m
put_behind n e x m size =
    let at : 20 * suc n ≡ length x + 20 * n = omega arith in
    rw (at, take-append-add x m (20 * n), drop-append-add x m (20 * n)) (append_assoc x (take (20 * n) m) (e ++ drop (20 * n) m))

among_put : {l m : List ℕ} → Among l m → (n k : ℕ) (e : List ℕ) → n ≤ length (entries_in k m) → IsStatusEntry e → Among l (putting n e m)
among_put r zero k e h st = put e st r
among_put r (suc n) zero e h st = absurd (omega arith)
among_put (put {l} {m} x y r) (suc n) (suc k) e h st =
    rw (put_behind n e x m y.entry.size) (put x y (among_put r n k e (omega (arith, ap length (first_entry k x m y.entry))) st))
among_put (keep {l} {m} x y r) (suc n) (suc k) e h st =
    rw (put_behind n e x m y.size) (keep x y (among_put r n k e (omega (arith, ap length (first_entry k x m y))) st))
among_put (end {l} {m} a b) (suc n) (suc k) e h st = absurd (omega (arith, ap length (none_here (suc k) m b)))

-- a whole frame
pub arrives_self : (f : List ℕ) → entries_at ≤ length f → Arrives f f
arrives_self f h =
    record {
      front = take 32 f;
      size = omega (arith, length-take 32 f);
      behind = drop 32 f;
      is_sent = sym (take-append-drop 32 f);
      arrived = drop 32 f;
      is_given = sym (take-append-drop 32 f);
      among = among_self (length f) (drop 32 f) (omega (arith, length-drop 32 f));
    }

pub arrives_put : {f given : List ℕ} (e : List ℕ) (n : ℕ) → Arrives f given → n ≤ length (status_entries (status_payload given)) → IsStatusEntry e
    → Arrives f (put_in n e given)
unfolding status_entries
arrives_put {f} {given} e n y few st =
    let at : entries_at + 20 * n ≡ length y.front + 20 * n = omega (arith, y.size) in
    let whole : put_in n e given ≡ y.front ++ putting n e y.arrived =
    rw (y.is_given, at, take-append-add y.front y.arrived (20 * n), drop-append-add y.front y.arrived (20 * n))
    (append_assoc y.front (take (20 * n) y.arrived) (e ++ drop (20 * n) y.arrived)) in
    record {
      front = y.front;
      size = y.size;
      behind = y.behind;
      is_sent = y.is_sent;
      arrived = putting n e y.arrived;
      is_given = whole;
      among = among_put y.among n (length (drop 18 (y.front ++ y.arrived))) e (rw (y.is_given, behind_front y y.arrived) at few) st;
    }
