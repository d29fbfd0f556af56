-- What opening a batch does to what the octets mean: the first waiting entries become the batch, and EN flips.
-- Assumes nothing.
use Prim.Native.Nat.{ℕ, ◌+◌, ◌-◌, ◌%◌, min}
use mathlib.Core.Path.{◌≡◌, refl, sym, ap, ◌∙◌}
use mathlib.Core.Bool.{Bool, true, false, not}
use mathlib.Core.List.{List}
use native.Mathlib.Nat.{add-zero}
use native.Mathlib.Omega.{arith}
use lib.ListN.{length, get_or, set, length-set}
use lib.Seq.{get_or-set_same, get_or-set_other}
use lib.Dec.{eqb, ltb}
use borrow.Author.Tests.{eqb-true}
use Rattle.std.proofs.lemmas.Bool.{and_parts}
use Rattle.types.specs.Codes.{pick}
use Rattle.records.specs.Ring.{ring}
use Rattle.reporter.specs.Layout.{waiting_at, open_at, start_at, en_at, id_at, reporter_length, places, en_of, start_of, open_of, waiting_of, entry_in, head_of, opens_in, carried_in, opened_bytes}
use Rattle.reporter.specs.Rules.{with_new_batch, batch_length, Head, opened}
use Rattle.reporter.proofs.Entries.{entry_set, ring_kept, ring_first, ring_others}
use Rattle.reporter.proofs.Ranges.{waiting_small, open_of_lem, waiting_of_lem, batch_empty, waiting_filled, head_same}

flipped : (b : Bool) → eqb (pick b 0 1 % 2) 1 ≡ not b
flipped true = refl
flipped false = refl

pub opened_is : (s : List ℕ) → opened (head_of s) ≡ pick (opens_in s) (with_new_batch (head_of s)) (head_of s)
unfolding opened
opened_is s = rw (batch_empty s, waiting_filled s)

-- a part of the head that an answer leaves
module _ {A : Type 0} (part : Head → A) (s : List ℕ) where
  part_opened : part (opened (head_of s)) ≡ pick (opens_in s) (part (with_new_batch (head_of s))) (part (head_of s))
  part_opened = ap part (opened_is s) ∙ split (opens_in s)
    where
      split : (b : Bool) → part (pick b (with_new_batch (head_of s)) (head_of s)) ≡ pick b (part (with_new_batch (head_of s))) (part (head_of s))
      split true = refl
      split false = refl

pick_same : {A : Type 0} (b : Bool) (x : A) → pick b x x ≡ x
pick_same true x = refl
pick_same false x = refl

pub id_opened : (s : List ℕ) → (opened (head_of s)).id ≡ get_or s id_at 0
unfolding head_of
id_opened s = part_opened (λ h. h.id) s ∙ pick_same (opens_in s) (get_or s id_at 0)

pub en_opened : (s : List ℕ) → (opened (head_of s)).en ≡ pick (opens_in s) (not (en_of s)) (en_of s)
unfolding head_of
en_opened s = part_opened (λ h. h.en) s

module _ (s : List ℕ) (opens : opens_in s ≡ true) where
  abbrev few : ℕ
  few = min (waiting_of s) batch_length

  abbrev octets : List ℕ
  octets = set (set (set s en_at (pick (en_of s) 0 1)) open_at few) waiting_at (waiting_of s - few)

  none_open : open_of s ≡ 0
  none_open = eqb-true (open_of s) 0 (and_parts (eqb (open_of s) 0) (ltb 0 (waiting_of s)) opens).0

  octets_are : opened_bytes s ≡ octets
  unfolding opened_bytes carried_in
  octets_are = rw opens

  pub carried_few : carried_in s ≡ few
  unfolding carried_in
  carried_few = rw opens

  octet_kept : (i : ℕ) → (i ≡ en_at → ⊥) → (i ≡ open_at → ⊥) → (i ≡ waiting_at → ⊥) → get_or octets i 0 ≡ get_or s i 0
  octet_kept i a b c =
      get_or-set_other (set (set s en_at (pick (en_of s) 0 1)) open_at few) waiting_at i (waiting_of s - few) 0 c
      ∙ get_or-set_other (set s en_at (pick (en_of s) 0 1)) open_at i few 0 b
      ∙ get_or-set_other s en_at i (pick (en_of s) 0 1) 0 a

  entry_kept : (p : ℕ) → entry_in octets p ≡ entry_in s p
  entry_kept p =
      entry_set (set (set s en_at (pick (en_of s) 0 1)) open_at few) waiting_at (waiting_of s - few) p (omega arith)
      ∙ entry_set (set s en_at (pick (en_of s) 0 1)) open_at few p (omega arith)
      ∙ entry_set s en_at (pick (en_of s) 0 1) p (omega arith)

  start_kept : start_of octets ≡ start_of s
  unfolding start_of
  start_kept = ap (λ (x : ℕ). x % places) (octet_kept start_at (omega arith) (omega arith) (omega arith))

  pub batch_opened : (opened (head_of s)).batch ≡ ring (entry_in s) places (start_of s) few
  unfolding head_of
  batch_opened =
      part_opened (λ h. h.batch) s
      ∙ rw (opens, none_open, add-zero) (ring_first (entry_in s) (start_of s) (waiting_of s) batch_length)

  module _ (size : length s ≡ reporter_length) where
    en_flipped : en_of octets ≡ not (en_of s)
    unfolding en_of
    en_flipped =
        let there : get_or octets en_at 0 ≡ pick (en_of s) 0 1 =
        get_or-set_other (set (set s en_at (pick (en_of s) 0 1)) open_at few) waiting_at en_at (waiting_of s - few) 0 (omega arith)
        ∙ get_or-set_other (set s en_at (pick (en_of s) 0 1)) open_at en_at few 0 (omega arith)
        ∙ get_or-set_same s en_at (pick (en_of s) 0 1) 0 (omega arith) in
        ap (λ (x : ℕ). eqb (x % 2) 1) there ∙ flipped (en_of s)

    open_is : open_of octets ≡ few
    open_is =
        let l : length (set s en_at (pick (en_of s) 0 1)) ≡ reporter_length = length-set s en_at (pick (en_of s) 0 1) ∙ size in
        let there : get_or octets open_at 0 ≡ few =
        get_or-set_other (set (set s en_at (pick (en_of s) 0 1)) open_at few) waiting_at open_at (waiting_of s - few) 0 (omega arith)
        ∙ get_or-set_same (set s en_at (pick (en_of s) 0 1)) open_at few 0 (omega arith) in
        rw (open_of_lem octets, there) (omega arith)

    waiting_is : waiting_of octets ≡ waiting_of s - few
    waiting_is =
        let t : List ℕ = set (set s en_at (pick (en_of s) 0 1)) open_at few in
        let l : length t ≡ reporter_length = length-set (set s en_at (pick (en_of s) 0 1)) open_at few ∙ length-set s en_at (pick (en_of s) 0 1) ∙ size in
        let there : get_or octets waiting_at 0 ≡ waiting_of s - few = get_or-set_same t waiting_at (waiting_of s - few) 0 (omega arith) in
        rw (waiting_of_lem octets, there) (omega (arith, waiting_small s))

    means : head_of octets ≡ with_new_batch (head_of s)
    unfolding head_of
    means =
        head_same (octet_kept id_at (omega arith) (omega arith) (omega arith)) en_flipped
        (rw (start_kept, open_is, ring_kept s octets entry_kept (start_of s) few, none_open, add-zero)
        (sym (ring_first (entry_in s) (start_of s) (waiting_of s) batch_length)))
        (rw (start_kept, open_is, waiting_is, ring_kept s octets entry_kept (start_of s + few) (waiting_of s - few), none_open, add-zero)
        (sym (ring_others (entry_in s) (start_of s) (waiting_of s) batch_length)))

    pub opened_means : head_of (opened_bytes s) ≡ opened (head_of s)
    opened_means = ap head_of octets_are ∙ means ∙ sym (opened_is s ∙ rw opens)

  pub opened_length : length (opened_bytes s) ≡ length s
  opened_length = ap length octets_are ∙ simp length-set

-- where none is opened, all stays
module _ (s : List ℕ) (opens : opens_in s ≡ false) where
  pub kept_octets : opened_bytes s ≡ s
  unfolding opened_bytes
  kept_octets = rw opens

  pub kept_length : length (opened_bytes s) ≡ length s
  kept_length = ap length kept_octets

  pub kept_means : head_of (opened_bytes s) ≡ opened (head_of s)
  kept_means = ap head_of kept_octets ∙ sym (opened_is s ∙ rw opens)

  pub batch_kept : (opened (head_of s)).batch ≡ ring (entry_in s) places (start_of s) (carried_in s)
  unfolding head_of carried_in
  batch_kept = part_opened (λ h. h.batch) s ∙ rw opens

  pub carried_open : carried_in s ≡ open_of s
  unfolding carried_in
  carried_open = rw opens
