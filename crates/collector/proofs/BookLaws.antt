-- What taking and pushing an entry make of a block: the entry taken is the book's first, an entry pushed its last.
-- Assumes nothing.
use Prim.Native.Nat.{ℕ, suc, ◌+◌, ◌*◌, ◌-◌, ◌%◌, ◌≤◌, ◌<◌, min}
use mathlib.Core.Path.{◌≡◌, refl, sym, ap, ◌∙◌}
use mathlib.Core.List.{List, [], ◌∷◌, ◌++◌}
use native.Mathlib.Nat.{mod-eq_of_lt, mod-mod}
use native.Mathlib.Numerals.{add-one}
use native.Mathlib.Omega.{arith}
use lib.ListN.{length, set, length-set}
use lib.Seq.{get_or-set_same}
use lib.Dec.{eqb}
use Rattle.error_entry.specs.ReadBack.{InRange}
use Rattle.error_entry.specs.declared.ErrorEntry.{ErrorEntry}
use Rattle.records.specs.Records.{record_at, with_record}
use Rattle.records.specs.Ring.{ring}
use Rattle.records.proofs.RecordLaws.{record_same, record_other, length_record}
use Rattle.records.proofs.RingLaws.{apart, ring_same, ring_snoc, length_ring}
use Rattle.collector.specs.Layout.{count_at, start_at, ea_at, node_at, collector_length, record_length, control_length, block, node_in, ea_in, start_in, count_in, record_place, entry_in, book_in, taken_bytes, pushed_bytes}
use Rattle.collector.specs.Rules.{heads, book_length}
use Rattle.collector.proofs.BlockLaws.{count_most, octet_set, Kept, kept_again, kept_set, book_is, entry_set, start_below, octet_put, kept_record}

pub book_length_lem : (s : List ℕ) (k : ℕ) → length (book_in s k) ≡ count_in s k
unfolding book_in
book_length_lem s k = length_ring (entry_in s k) book_length (start_in s k) (count_in s k)

pub book_most : (s : List ℕ) (k : ℕ) → length (book_in s k) ≤ book_length
book_most s k = omega (arith, book_length_lem s k, count_most s k)

pub book_empty : (s : List ℕ) (k : ℕ) → count_in s k ≡ 0 → book_in s k ≡ []
unfolding book_in ring
book_empty s k e = rw e

-- ---- stores to the octets in front of the records

module _ (s : List ℕ) (k a x : ℕ) where
  pub node_set : (node_at ≡ a → ⊥) → node_in (set s (block k + a) x) k ≡ node_in s k
  unfolding node_in
  node_set ne = octet_set s k a x node_at ne

  pub start_set : (start_at ≡ a → ⊥) → start_in (set s (block k + a) x) k ≡ start_in s k
  unfolding start_in
  start_set ne = ap (λ (y : ℕ). y % book_length) (octet_set s k a x start_at ne)

  pub count_set : (count_at ≡ a → ⊥) → count_in (set s (block k + a) x) k ≡ count_in s k
  unfolding count_in
  count_set ne = ap (λ (y : ℕ). min y book_length) (octet_set s k a x count_at ne)

  ea_set : (ea_at ≡ a → ⊥) → ea_in (set s (block k + a) x) k ≡ ea_in s k
  unfolding ea_in
  ea_set ne = ap (λ (y : ℕ). eqb (y % 2) 1) (octet_set s k a x ea_at ne)

module _ (s : List ℕ) (k : ℕ) (size : length s ≡ collector_length) (place : k < heads) where
  start_new : (x : ℕ) → start_in (set s (block k + start_at) x) k ≡ x % book_length
  unfolding start_in
  start_new x = ap (λ (y : ℕ). y % book_length) (get_or-set_same s (block k + start_at) x 0 (omega arith))

  count_new : (x : ℕ) → x ≤ book_length → count_in (set s (block k + count_at) x) k ≡ x
  unfolding count_in
  count_new x h = ap (λ (y : ℕ). min y book_length) (get_or-set_same s (block k + count_at) x 0 (omega arith)) ∙ omega arith

-- ---- take

module _ (s : List ℕ) (k : ℕ) where
  pub taken_ea : ea_in (taken_bytes s k) k ≡ ea_in s k
  unfolding taken_bytes
  taken_ea =
      ea_set (set s (block k + start_at) ((start_in s k + 1) % book_length)) k count_at (count_in s k - 1) (omega arith)
      ∙ ea_set s k start_at ((start_in s k + 1) % book_length) (omega arith)

  pub taken_node : node_in (taken_bytes s k) k ≡ node_in s k
  unfolding taken_bytes
  taken_node =
      node_set (set s (block k + start_at) ((start_in s k + 1) % book_length)) k count_at (count_in s k - 1) (omega arith)
      ∙ node_set s k start_at ((start_in s k + 1) % book_length) (omega arith)

  pub taken_kept : Kept s (taken_bytes s k) k
  unfolding taken_bytes
  taken_kept =
      let s₁ : List ℕ = set s (block k + start_at) ((start_in s k + 1) % book_length) in
      kept_again s s₁ (set s₁ (block k + count_at) (count_in s k - 1)) k (kept_set s k start_at ((start_in s k + 1) % book_length) (omega arith))
      (kept_set s₁ k count_at (count_in s k - 1) (omega arith))

  pub taken_length : length (taken_bytes s k) ≡ length s
  unfolding taken_bytes
  taken_length = simp length-set

  module _ (size : length s ≡ collector_length) (place : k < heads) where
    -- the book is the entry handed out, then the book that is left
    pub book_taken : 0 < count_in s k → book_in s k ≡ entry_in s k (start_in s k) ∷ book_in (taken_bytes s k) k
    unfolding book_in taken_bytes ring
    book_taken some =
        let st : ℕ = start_in s k in
        let n : ℕ = count_in s k in
        let s₁ : List ℕ = set s (block k + start_at) ((st + 1) % book_length) in
        let l₁ : length s₁ ≡ collector_length = length-set s (block k + start_at) ((st + 1) % book_length) ∙ size in
        let s₂ : List ℕ = set s₁ (block k + count_at) (n - 1) in
        let es : start_in s₂ k ≡ (st + 1) % book_length = start_set s₁ k count_at (n - 1) (omega arith) ∙ start_new s k size place ((st + 1) % book_length) ∙ mod-mod (st + 1) book_length in
        let en : count_in s₂ k ≡ n - 1 = count_new s₁ k l₁ place (n - 1) (omega (arith, count_most s k)) in
        let rest : book_in s₂ k ≡ ring (entry_in s k) book_length (suc st) (n - 1) =
        book_is s₂ k (st + 1) (n - 1) es en
        ∙ ring_same (entry_in s k) (entry_in s₂ k) book_length (st + 1) (n - 1)
        (λ i _. entry_set s₁ k count_at (n - 1) ((st + 1 + i) % book_length) (omega arith) ∙ entry_set s k start_at ((st + 1) % book_length) ((st + 1 + i) % book_length) (omega arith))
        ∙ ap (λ (a : ℕ). ring (entry_in s k) book_length a (n - 1)) (add-one st) in
        let more : n ≡ suc (n - 1) = omega arith in
        ap (ring (entry_in s k) book_length st) more
        ∙ ap (λ (j : ℕ). entry_in s k j ∷ ring (entry_in s k) book_length (suc st) (n - 1)) (mod-eq_of_lt (start_below s k))
        ∙ ap (λ (l : List ErrorEntry). entry_in s k st ∷ l) (sym rest)

-- ---- an entry joins the book

module _ (s : List ℕ) (k : ℕ) (e : ErrorEntry) where
  pub pushed_length : length (pushed_bytes s k e) ≡ length s
  unfolding pushed_bytes
  pushed_length = simp (length-set, length_record)

  pushed_start : start_in (pushed_bytes s k e) k ≡ start_in s k
  unfolding pushed_bytes start_in
  pushed_start =
      let p : ℕ = start_in s k + count_in s k in
      start_set (with_record s (record_place k p) e) k count_at (count_in s k + 1) (omega arith) ∙ ap (λ (y : ℕ). y % book_length) (octet_put s k p e start_at (omega arith))

  pub pushed_node : node_in (pushed_bytes s k e) k ≡ node_in s k
  unfolding pushed_bytes node_in
  pushed_node =
      let p : ℕ = start_in s k + count_in s k in
      node_set (with_record s (record_place k p) e) k count_at (count_in s k + 1) (omega arith) ∙ octet_put s k p e node_at (omega arith)

  pub pushed_kept : Kept s (pushed_bytes s k e) k
  unfolding pushed_bytes
  pushed_kept =
      let p : ℕ = start_in s k + count_in s k in
      let s₁ : List ℕ = with_record s (record_place k p) e in
      kept_again s s₁ (set s₁ (block k + count_at) (count_in s k + 1)) k (kept_record s k p e) (kept_set s₁ k count_at (count_in s k + 1) (omega arith))

  module _ (size : length s ≡ collector_length) (place : k < heads) (room : count_in s k < book_length) where
    pub pushed_count : count_in (pushed_bytes s k e) k ≡ count_in s k + 1
    unfolding pushed_bytes
    pushed_count =
        let p : ℕ = record_place k (start_in s k + count_in s k) in
        count_new (with_record s p e) k (length_record s p e ∙ size) place (count_in s k + 1) (omega arith)

    -- the book is the book as it was, then the entry
    pub book_pushed : InRange e → book_in (pushed_bytes s k e) k ≡ book_in s k ++ (e ∷ [])
    unfolding pushed_bytes
    book_pushed range =
        let st : ℕ = start_in s k in
        let n : ℕ = count_in s k in
        let p : ℕ = (st + n) % book_length in
        let s₁ : List ℕ = with_record s (record_place k (st + n)) e in
        let s₂ : List ℕ = set s₁ (block k + count_at) (n + 1) in
        let own : st ≡ st % book_length = sym (mod-eq_of_lt (start_below s k)) in
        let after : (j : ℕ) → entry_in s₂ k j ≡ entry_in s₁ k j = λ j. entry_set s₁ k count_at (n + 1) j (omega arith) in
        let last : entry_in s₂ k p ≡ e =
        after p ∙ ap (λ (m : ℕ). record_at s₁ (block k + control_length + record_length * m)) (mod-mod (st + n) book_length) ∙ record_same s (record_place k (st + n)) e (omega arith) range in
        let others : (i : ℕ) → i < n → entry_in s₂ k ((st + i) % book_length) ≡ entry_in s k ((st + i) % book_length) =
        λ i l.
        after ((st + i) % book_length)
        ∙ record_other s e (block k + control_length) record_length p ((st + i) % book_length % book_length) (omega arith)
        (λ q.
        apart book_length (st + i) (n - i) (omega arith) (omega arith)
        (sym (mod-mod (st + i) book_length) ∙ q ∙ ap (λ (x : ℕ). x % book_length) (let z : st + n ≡ st + i + (n - i) = omega arith in z))) in
        book_is s₂ k st (suc n) (pushed_start ∙ own) (pushed_count ∙ add-one n)
        ∙ ring_snoc (entry_in s₂ k) book_length st n
        ∙ ap (λ (l : List ErrorEntry). l ++ (entry_in s₂ k p ∷ [])) (ring_same (entry_in s k) (entry_in s₂ k) book_length st n others ∙ sym (book_is s k st n own refl))
        ∙ ap (λ (x : ErrorEntry). book_in s k ++ (x ∷ [])) last
