-- What holds after every list of calls.
-- Assumes nothing.
use Prim.Native.Nat.{ℕ, ◌≤◌, ◌<◌}
use mathlib.Core.Bool.{Bool, not, beq}
use mathlib.Core.Path.{◌≡◌}
use mathlib.Core.List.{List, [], ◌++◌}
use lib.ListN.{length}
use Rattle.std.specs.Prelude.{Ok, Some, Option, None, slice_get}
use Rattle.types.specs.Codes.{pick}
use Rattle.error_entry.specs.declared.ErrorEntry.{ErrorEntry}
use Rattle.reporter.specs.Layout.{head_of}
use Rattle.reporter.specs.Rules.{Head, ea_told}
use Rattle.collector.specs.Layout.{account_of}
use Rattle.collector.specs.Rules.{book_length, Account, en_in, status_in}
use Rattle.signaling.specs.Calls.{Tally, tally, ruled, World, ea_of}
use Rattle.signaling.proofs.Frames.{Good, IsAnswer}

-- ---- what the frames say

-- octets that give head i an EA, under whichever table, give this one
abbrev pub Carries : ℕ → Bool → List ℕ → Type 0
Carries i ea bs = (services : List ℕ) (x : Bool) → ea_told services i bs ≡ Ok (Some x) → x ≡ ea

unfoldable pub en_said : List ℕ → Bool
en_said bs = en_in (status_in bs).fields

unfoldable pub batch_said : List ℕ → List ErrorEntry
batch_said bs = (status_in bs).entries

-- The answers that can still be given to the box. Those sent since the last opening carry EN, and the open batch; those sent
-- before carry the opposite bit. Where the last batch is booked, EA is EN, and no answer from before it can still be given to the box.
pub record Answers (en ea : Bool) (batch : List ErrorEntry) (sent : List (List ℕ)) (at opened : ℕ) : Type 0 where
  pub old : (p : ℕ) (a : List ℕ) → at ≤ p → slice_get sent p ≡ Some a → p < opened → en_said a ≡ not en
  pub new : (p : ℕ) (a : List ℕ) → at ≤ p → slice_get sent p ≡ Some a → opened ≤ p → en_said a ≡ en
  pub carry : (p : ℕ) (a : List ℕ) → at ≤ p → slice_get sent p ≡ Some a → opened ≤ p → (batch ≡ [] → ⊥) → batch_said a ≡ batch
  pub past : ea ≡ en → opened ≤ at
  pub range : opened ≤ length sent
  pub given : at ≤ length sent

-- The requests to this head that can still be given to it. Those sent since EA last changed carry EA, those sent before the
-- opposite bit. Where no batch is open or the open one is not booked, none from before that change can still be given to the head.
pub record Requests (i : ℕ) (en ea : Bool) (batch : List ErrorEntry) (sent : List (List ℕ)) (at turned : ℕ) : Type 0 where
  pub old : (q : ℕ) (f : List ℕ) → at ≤ q → slice_get sent q ≡ Some f → q < turned → Carries i (not ea) f
  pub new : (q : ℕ) (f : List ℕ) → at ≤ q → slice_get sent q ≡ Some f → turned ≤ q → Carries i ea f
  pub closed : batch ≡ [] → turned ≤ at
  pub unread : ea ≡ not en → turned ≤ at
  pub range : turned ≤ length sent
  pub given : at ≤ length sent

-- ---- what the calls come to

-- an ID without a place has nothing booked, as it is when registered
abbrev pub book_of : Option Account → List ErrorEntry
book_of None = []
book_of (Some p) = p.book

pub record Inv (i : ℕ) (ea : Bool) (book : List ErrorEntry) (c : Tally) : Type 0 where
  pub id : c.ruled.head.id ≡ i
  pub batch : Good c.ruled.head.batch
  pub waiting : Good c.ruled.head.waiting
  pub source : (p : ℕ) (bs : List ℕ) → slice_get c.answers.frames p ≡ Some bs → IsAnswer i bs
  pub answers : Answers c.ruled.head.en ea c.ruled.head.batch c.answers.frames c.answers.at c.ruled.opened_at
  pub turned : ℕ
  pub requests : Requests i c.ruled.head.en ea c.ruled.head.batch c.requests.frames c.requests.at turned
  -- no open batch: the last one is booked
  pub idle : c.ruled.head.batch ≡ [] → ea ≡ c.ruled.head.en
  pub since : c.ruled.is_booked ≡ beq ea c.ruled.head.en
  pub total : c.entries.handed_out ++ book ++ (pick c.ruled.is_booked [] c.ruled.head.batch ++ c.ruled.head.waiting)
      ≡ c.entries.accepted
  pub room : length book ≤ book_length

-- what the head holds, and the place of node i
abbrev pub head_in : World → Head
head_in w = head_of w.head

abbrev pub place_for : ℕ → World → Option Account
place_for i w = account_of w.box i

pub record Held (i : ℕ) (w : World) : Type 0 where
  pub head : head_in w ≡ ruled i w.log
  pub inv : Inv i (ea_of (place_for i w)) (book_of (place_for i w)) (tally i w.log)
