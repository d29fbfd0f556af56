-- The w exchanges: 01's bound on how long a backlog lasts, with places for all of it at the start (`Progress`) and with places as each
-- exchange needs them (`StepwiseProgress`), which is more.
-- Assumes nothing.
use Rattle.std.specs.Prelude.{ℕ, suc, ◌+◌, ◌-◌, ◌≤◌, Bool, ◌≡◌, List, [], ◌++◌, length, Result, Ok, Err, Some}
use Rattle.types.specs.declared.hal.PowerlinkError.{PowerlinkError}
use Rattle.error_entry.specs.declared.ErrorEntry.{ErrorEntry}
use Rattle.reporter.specs.Rules.{ea_told}
use Rattle.reporter.specs.declared.ReadOutcome.{ReadOutcome}
use Rattle.collector.specs.Layout.{account_of}
use Rattle.collector.specs.Rules.{Account}
use Rattle.collector.specs.declared.ReadError.TheVariants as refusal
use Rattle.collector.specs.declared.ReadError.{ReadError}
use Rattle.collector.specs.declared.ReadOutcome.{ReadOutcome as BoxOutcome}
use Rattle.signaling.specs.Calls.{sent, foreign, Event, raised, answered, head_read, registered, box_read, requested, taken, hosted, answers_sent, requests_sent, ruled, unbooked, World, Step, Run}

-- "w entries (waiting and open)"
abbrev pub pending : ℕ → World → List ErrorEntry
pending i w = (ruled i w.log).batch ++ (ruled i w.log).waiting

-- "nothing raised meanwhile": a Raise that is refused raises nothing. "No answer or request of theirs read outside an exchange": the box
-- reads no answer of this head. The head may read whatever the box and its host sent, in the order of sending (`Delivered`), also what
-- gives it an EA: this is wider than 01. All else may be called.
abbrev pub Quiet : ℕ → Event → Type 0
Quiet i (raised e (Ok _)) = ⊥
Quiet i (raised e (Err x)) = Unit {0}
Quiet i (answered r bs) = Unit {0}
Quiet i (head_read services o bs r) = Unit {0}
Quiet i (registered j r) = Unit {0}
Quiet i (box_read services (sent p) bs r) = ⊥
Quiet i (box_read services foreign bs r) = Unit {0}
Quiet i (requested j r bs) = Unit {0}
Quiet i (taken j r) = Unit {0}
Quiet i (hosted bs) = Unit {0}

-- "On the line a repeat arrives before any later frame of the same sender": the frame that was read last is read once more,
-- under whichever table; an answer with whichever status entries
abbrev pub AnswerAgain : ℕ → Event → Type 0
AnswerAgain p x = (services : List ℕ) × (bs : List ℕ) × (r : Result BoxOutcome ReadError) × (x ≡ box_read services (sent p) bs r)

abbrev pub RequestAgain : ℕ → List ℕ → Event → Type 0
RequestAgain q bs x = (services : List ℕ) × (r : Result ReadOutcome PowerlinkError) × (x ≡ head_read services (sent q) bs r)

abbrev pub NoRepeat : Event → Type 0
NoRepeat x = ⊥

-- quiet calls, and repeats among them
pub data Quietly (i : ℕ) (Repeat : Event → Type 0) : World → World → Type 0 where
  still : {w : World} → Quietly i Repeat w w
  next : {w v u : World} {x : Event} → Quietly i Repeat w v → Step i v x u → Quiet i x → Quietly i Repeat w u
  again : {w v u : World} {x : Event} → Quietly i Repeat w v → Step i v x u → Repeat x → Quietly i Repeat w u

-- "one answer read by the box, then its next request read by that head". "Nothing in transit between the two at the start or whenever
-- either writes": the answer that the box reads was sent since the exchange began, and the request that the head reads was sent
-- since the box read. 01 asks for more than this, so all of its exchanges are among these.
pub record Exchange (i : ℕ) (w v : World) : Type 0 where
  pub length₁ : ℕ
  pub answer : List ℕ
  pub w₁ : World
  pub answers : Step i w (answered (Ok length₁) answer) w₁
  pub w₂ : World
  pub quiet₁ : Quietly i NoRepeat w₁ w₂
  pub p : ℕ
  pub answer_read : List ℕ
  pub box_services : List ℕ
  pub box_says : Result BoxOutcome ReadError
  pub w₃ : World
  pub box_reads : Step i w₂ (box_read box_services (sent p) answer_read box_says) w₃
  pub new_answer : length (answers_sent i w.log) ≤ p
  pub w₄ : World
  -- nothing in transit "whenever either writes": repeats of the answer come before the box writes
  pub quiet₂ : Quietly i (AnswerAgain p) w₃ w₄
  pub length₂ : ℕ
  pub request : List ℕ
  pub w₅ : World
  pub requests : Step i w₄ (requested i (Ok length₂) request) w₅
  pub w₆ : World
  pub quiet₃ : Quietly i NoRepeat w₅ w₆
  pub q : ℕ
  pub request_read : List ℕ
  pub head_services : List ℕ
  pub head_says : Result ReadOutcome PowerlinkError
  pub w₇ : World
  pub head_reads : Step i w₆ (head_read head_services (sent q) request_read head_says) w₇
  pub new_request : length (requests_sent i w₄.log) ≤ q
  pub ea : Bool
  pub mine : ea_told head_services i request_read ≡ Ok (Some ea)
  -- and repeats of the request before the head writes again
  pub quiet₄ : Quietly i (RequestAgain q request_read) w₇ v

-- n exchanges, with quiet calls before, between and behind them
pub data Exchanges (i : ℕ) : ℕ → World → World → Type 0 where
  done : {w v : World} → Quietly i NoRepeat w v → Exchanges i 0 w v
  more : {n : ℕ} {w t u v : World} → Quietly i NoRepeat w t → Exchange i t u → Exchanges i n u v → Exchanges i (suc n) w v

-- "With free places for them": for those that are not booked yet. 01's conditions need the head to be registered: it is the "registered
-- heads" that have a book, and the answer of any other is refused with 11 and closes nothing.
pub record Room (i : ℕ) (w : World) : Type 0 where
  pub account : Account
  pub registered : account_of w.box i ≡ Some account
  pub free : length account.book + length (unbooked i w.log ++ (ruled i w.log).waiting) ≤ 64

pub record Progress : Type 0 where
  -- each exchange closes one entry at least, while there is one
  pub closes : (i n : ℕ) (w v : World) → Run i w → Room i w → Exchanges i n w v → length (pending i v) ≤ length (pending i w) - n
  -- "w entries are closed after at most w exchanges"
  pub closed : (i n : ℕ) (w v : World) → Run i w → Room i w → Exchanges i n w v → length (pending i w) ≤ n → pending i v ≡ []

-- ---- free places, exchange by exchange: Takes between two exchanges make places too

abbrev pub IsRegistered : ℕ → World → Type 0
IsRegistered i w = (account : Account) × (account_of w.box i ≡ Some account)

-- each exchange finds the places that it needs: its answer, when first read, is not refused with 12
abbrev pub Found : {i n : ℕ} {w v : World} → Exchanges i n w v → Type 0
Found (done l) = Unit {0}
Found (more l x xs) = (x.box_says ≡ Err refusal.BookFull → ⊥) × Found xs

pub record StepwiseProgress : Type 0 where
  pub closes : (i n : ℕ) (w v : World) → Run i w → IsRegistered i w → (xs : Exchanges i n w v) → Found xs
      → length (pending i v) ≤ length (pending i w) - n
  pub closed : (i n : ℕ) (w v : World) → Run i w → IsRegistered i w → (xs : Exchanges i n w v) → Found xs
      → length (pending i w) ≤ n
      → pending i v ≡ []
  -- places for all at the start are found
  pub found : (i n : ℕ) (w v : World) → Run i w → Room i w → (xs : Exchanges i n w v) → Found xs
