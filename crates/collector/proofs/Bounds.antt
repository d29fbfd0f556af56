-- The bounds of a box.
-- Assumes nothing.
use Prim.Native.Nat.{ℕ, ◌+◌, ◌≤◌, ◌<◌}
use mathlib.Core.Bool.{Bool, true, false, ◌&&◌, true≢false}
use mathlib.Core.Path.{◌≡◌, refl, sym, ap, ◌∙◌}
use mathlib.Core.List.{List, [], ◌∷◌}
use native.Mathlib.Omega.{arith}
use lib.ListN.{length}
use lib.Dec.{eqb, leb, ltb}
use borrow.Author.Tests.{eqb-true, leb-true, ltb-true}
use Rattle.std.specs.Prelude.{Result, Ok, Err, Some, None, Option}
use borrow.Table.Steps.{cases as either}
use Rattle.types.specs.Codes.{need}
use Rattle.error_entry.specs.declared.ErrorEntry.{ErrorEntry}
use Rattle.collector.specs.Bounds.{BoxRun, fresh, registers, reads, takes, is_in, EachOnce, OfHeads, BoxBounds}
use Rattle.collector.specs.Layout.{box_of}
use Rattle.collector.specs.Rules.{Account, Box, Same, with_account, is_registered, register_vacant, register_answer, after_register, Said, account_answer, response_answer, read_answer, response_in, status_in, after_booking, after_response, take_answer, after_take}
use Rattle.collector.specs.declared.ReadOutcome.TheVariants.{Booked, Known}
use Rattle.collector.specs.declared.RegisterError.TheVariants.{IdOutOfRange, Full}
use Rattle.collector.proofs.Meaning.{book_bound}
use Rattle.collector.specs.declared.RegisterError.{RegisterError}
use Rattle.collector.specs.declared.TakeError.{TakeError}
use Rattle.collector.specs.declared.ReadOutcome.{ReadOutcome}
use Rattle.collector.specs.declared.ReadError.{ReadError}
use Rattle.types.specs.declared.NodeId.{NodeId}
use Rattle.types.specs.declared.hal.PowerlinkError.{PowerlinkError}

-- ---- what a box means, and the calls that register nobody

-- as `Ids`, of a box
record IdsIn (b : Box) : Type 0 where
  ids : List ℕ
  are : (i : ℕ) → is_registered (b.accounts i) ≡ is_in i ids
  once : EachOnce ids
  range : OfHeads ids
  four : length ids + b.vacant ≡ 4

-- the same IDs, and as many vacant places
record Alike (a b : Box) : Type 0 where
  accounts : (i : ℕ) → is_registered (a.accounts i) ≡ is_registered (b.accounts i)
  vacant : a.vacant ≡ b.vacant

alike : (a b : Box) → Alike a b → IdsIn b → IdsIn a
alike a b e h =
    record { ids = h.ids; are = λ i. e.accounts i ∙ h.are i; once = h.once; range = h.range; four = rw e.vacant h.four }

same_alike : (a b : Box) → Same a b → Alike a b
same_alike a b e = record { accounts = λ i. ap is_registered (e.accounts i); vacant = e.vacant }

unchanged : (b : Box) → Alike b b
unchanged b = record { accounts = λ i. refl; vacant = refl }

-- an account of a registered ID is put anew
put_alike : (b : Box) (i : ℕ) (p : Account) → is_registered (b.accounts i) ≡ true → Alike (with_account i p b) b
put_alike b i p is =
    record {
      accounts = λ j. either (eqb j i) (λ here. rw (here, eqb-true j i here) (sym is)) (λ away. rw away);
      vacant = refl;
    }

-- ---- reading

known_place : (said : Said) (o : Option Account) → (Ok Booked) ≡ account_answer said o → is_registered o ≡ true
known_place said None e = cc
known_place said (Some p) e = refl

booking : (h : Result (Option NodeId) PowerlinkError) (said : Said) (b : Box) → (Ok Booked) ≡ response_answer h said b → Alike (after_booking h said b) b
booking (Err e) said b q = unchanged b
booking (Ok None) said b q = unchanged b
booking (Ok (Some source)) said b q = put_alike b source.0 _ (known_place said (b.accounts source.0) q)

reading : (services f : List ℕ) (b : Box) (r : Result ReadOutcome ReadError) → r ≡ read_answer services f b → Alike (after_response services r f b) b
unfolding read_answer
reading services f b (Ok Booked) e = booking (response_in services f) (status_in f) b e
reading services f b (Ok Known) e = unchanged b
reading services f b (Err x) e = unchanged b

-- ---- Take

taken_place : (e : ErrorEntry) (o : Option Account) → Ok e ≡ take_answer o → is_registered o ≡ true
taken_place e None q = cc
taken_place e (Some p) q = refl

handing : (i : ℕ) (b : Box) (r : Result ErrorEntry TakeError) → r ≡ take_answer (b.accounts i) → Alike (after_take r i b) b
handing i b (Ok e) q = put_alike b i _ (taken_place e (b.accounts i) q)
handing i b (Err x) q = unchanged b

-- ---- registering

record WhyRegistered (i : ℕ) (b : Box) : Type 0 where
  low : 1 ≤ i
  high : i ≤ 239
  free : is_registered (b.accounts i) ≡ false
  room : 0 < b.vacant

abbrev Registered : Result Unit RegisterError → Type 0
Registered r = Ok tt ≡ r

vacant_by : (t : Bool) → Registered (need t (Err Full) (Ok tt)) → t ≡ true
vacant_by true e = refl
vacant_by false e = cc

free_by : (o : Option Account) (n : ℕ) → Registered (register_vacant o n) → (is_registered o ≡ false) × (0 < n)
free_by None n e = (refl, ltb-true 0 n (vacant_by (ltb 0 n) e))
free_by (Some p) n e = absurd (true≢false cc)

ok_by : (low high : Bool) (o : Option Account) (n : ℕ) → Registered (need (low && high) (Err IdOutOfRange) (register_vacant o n))
    → (low ≡ true) × (high ≡ true) × (is_registered o ≡ false) × (0 < n)
ok_by true true o n e = let f = free_by o n e in (refl, refl, f.0, f.1)
ok_by true false o n e = absurd (true≢false cc)
ok_by false high o n e = absurd (true≢false cc)

why : (i : ℕ) (b : Box) → Registered (register_answer i b) → WhyRegistered i b
unfolding register_answer
why i b e =
    let f = ok_by (leb 1 i) (leb i 239) (b.accounts i) b.vacant e in
    record { low = leb-true 1 i f.0; high = leb-true i 239 f.1; free = f.2; room = f.3 }

registering : (i : ℕ) (b : Box) (r : Result Unit RegisterError) → r ≡ register_answer i b → IdsIn b → IdsIn (after_register r i b)
registering i b (Ok u) e h =
    let y = why i b e in
    record {
      ids = i ∷ h.ids;
      are = λ j. either (eqb j i) (λ here. rw here) (λ away. rw away (h.are j));
      once = (sym (h.are i) ∙ y.free, h.once);
      range = (y.low, y.high, h.range);
      four = omega (arith, y.room, h.four);
    }
registering i b (Err x) e h = h

-- ---- every list

after : {s : List ℕ} → BoxRun s → IdsIn (box_of s)
after (fresh s f) =
    alike (box_of s) _ (same_alike _ _ f.box) (record { ids = []; are = λ i. refl; once = tt; range = tt; four = refl })
after (registers {s} i r t run c) =
    alike (box_of t) _ (same_alike _ _ c.box) (registering i.0 (box_of s) r c.answer (after run))
after (reads {s} services f r t run c) =
    alike (box_of t) _ (same_alike _ _ c.box) (alike _ (box_of s) (reading services f (box_of s) r c.answer) (after run))
after (takes {s} i r t run c) =
    alike (box_of t) _ (same_alike _ _ c.box) (alike _ (box_of s) (handing i.0 (box_of s) r c.answer) (after run))

pub box_bounds : BoxBounds
box_bounds =
    record {
      book = book_bound;
      registered = λ s run.
          let h = after run in record { ids = h.ids; are = h.are; once = h.once; range = h.range; four = h.four };
    }
