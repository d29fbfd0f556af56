-- The octets of a block: what stores in one block leave of the others, and of its own records.
-- Assumes nothing.
use Prim.Native.Nat.{ℕ, ◌+◌, ◌-◌, ◌%◌, ◌≤◌, ◌<◌, min}
use mathlib.Core.Path.{◌≡◌, sym, ap, ◌∙◌}
use mathlib.Core.List.{List}
use mathlib.Core.Logic.{⊎_elim}
use native.Mathlib.Omega.{arith}
use lib.ListN.{get_or, set}
use lib.Seq.{get_or-set_other}
use lib.Dec.{eqb}
use Rattle.std.proofs.lemmas.Bool.{cases_lt}
use Rattle.error_entry.specs.declared.ErrorEntry.{ErrorEntry}
use Rattle.records.specs.Records.{with_record}
use Rattle.records.specs.Ring.{ring}
use Rattle.records.proofs.RecordLaws.{record_same_octets, record_set, octet_record, octet_record_above}
use Rattle.records.proofs.RingLaws.{ring_same, ring_shift}
use Rattle.collector.specs.Layout.{count_at, start_at, ea_at, node_at, control_length, block, block_length, node_in, ea_in, start_in, count_in, record_place, entry_in, book_in, account_in}
use Rattle.collector.specs.Rules.{book_length}

pub start_below : (s : List ℕ) (k : ℕ) → start_in s k < book_length
unfolding start_in
start_below s k = omega arith

pub count_most : (s : List ℕ) (k : ℕ) → count_in s k ≤ book_length
unfolding count_in
count_most s k = omega arith

-- the book of a state whose start and count are known
pub book_is : (s : List ℕ) (k start n : ℕ) → start_in s k ≡ start % book_length → count_in s k ≡ n → book_in s k ≡ ring (entry_in s k) book_length start n
unfolding book_in
book_is s k start n es en = rw (es, en) (ring_shift (entry_in s k) book_length start n)

-- ---- other blocks

-- only block k of s may differ in t
abbrev pub Kept : List ℕ → List ℕ → ℕ → Type 0
Kept s t k = (o j : ℕ) → (o ≡ k → ⊥) → j < block_length → get_or t (block o + j) 0 ≡ get_or s (block o + j) 0

pub kept_again : (s t u : List ℕ) (k : ℕ) → Kept s t k → Kept t u k → Kept s u k
kept_again s t u k f g o j ne h = g o j ne h ∙ f o j ne h

pub kept_set : (s : List ℕ) (k a x : ℕ) → a < block_length → Kept s (set s (block k + a) x) k
kept_set s k a x small o j ne h = get_or-set_other s (block k + a) (block o + j) x 0 (λ q. ne (omega arith))

pub kept_record : (s : List ℕ) (k p : ℕ) (e : ErrorEntry) → Kept s (with_record s (record_place k p) e) k
kept_record s k p e o j ne h =
    ⊎_elim
    (λ (l : k < o). octet_record_above s (record_place k p) e (block o + j) (omega arith))
    (λ (l : o ≤ k). octet_record s (record_place k p) e (block o + j) (let d : o < k = omega arith in omega arith))
    (cases_lt k o)

module _ (s t : List ℕ) (k : ℕ) (kept : Kept s t k) (o : ℕ) (ne : o ≡ k → ⊥) where
  pub node_kept : node_in t o ≡ node_in s o
  unfolding node_in
  node_kept = kept o node_at ne (omega arith)

  ea_kept : ea_in t o ≡ ea_in s o
  unfolding ea_in
  ea_kept = ap (λ (x : ℕ). eqb (x % 2) 1) (kept o ea_at ne (omega arith))

  start_kept : start_in t o ≡ start_in s o
  unfolding start_in
  start_kept = ap (λ (x : ℕ). x % book_length) (kept o start_at ne (omega arith))

  count_kept : count_in t o ≡ count_in s o
  unfolding count_in
  count_kept = ap (λ (x : ℕ). min x book_length) (kept o count_at ne (omega arith))

  entry_kept : (p : ℕ) → entry_in t o p ≡ entry_in s o p
  entry_kept p =
      record_same_octets t s (record_place o p)
      (λ i l m.
      let e : i ≡ block o + (i - block o) = omega arith in
      ap (λ (x : ℕ). get_or t x 0) e ∙ kept o (i - block o) ne (omega arith) ∙ ap (λ (x : ℕ). get_or s x 0) (sym e))

  book_kept : book_in t o ≡ book_in s o
  unfolding book_in
  book_kept =
      rw (start_kept, count_kept)
      (ring_same (entry_in s o) (entry_in t o) book_length (start_in s o) (count_in s o) (λ i h. entry_kept ((start_in s o + i) % book_length)))

  pub place_kept : account_in t o ≡ account_in s o
  place_kept = rw (ea_kept, book_kept)

-- ---- the block itself

module _ (s : List ℕ) (k : ℕ) where
  -- a store to one of the 16 octets in front of the records
  pub entry_set : (a x p : ℕ) → a < control_length → entry_in (set s (block k + a) x) k p ≡ entry_in s k p
  entry_set a x p h = record_set s (block k + a) x (record_place k p) (omega arith)

  pub octet_set : (a x b : ℕ) → (b ≡ a → ⊥) → get_or (set s (block k + a) x) (block k + b) 0 ≡ get_or s (block k + b) 0
  octet_set a x b ne = get_or-set_other s (block k + a) (block k + b) x 0 (λ q. ne (omega arith))

  -- a record, and the 16 octets
  pub octet_put : (p : ℕ) (e : ErrorEntry) (b : ℕ) → b < control_length → get_or (with_record s (record_place k p) e) (block k + b) 0 ≡ get_or s (block k + b) 0
  octet_put p e b h = octet_record s (record_place k p) e (block k + b) (omega arith)
