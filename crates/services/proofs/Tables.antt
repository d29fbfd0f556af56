-- What a table of IDs holds: the IDs and StatusResponse, and nothing else.
-- Assumes nothing.
use Prim.Native.Nat.{ℕ, ◌≤◌, ◌<◌}
use mathlib.Core.Bool.{Bool, true, false, not, ◌||◌, or-true, or-false}
use mathlib.Core.Path.{◌≡◌, refl, sym, ap, ◌∙◌}
use mathlib.Core.List.{List, [], ◌∷◌}
use native.Mathlib.Omega.{arith}
use lib.Dec.{ltb, eqb}
use lib.ListN.{length, get_or, set, replicate, length-set, length-replicate, get_or-replicate, get_or-eq_default}
use lib.Seq.{get_or-set_same, get_or-set_other}
use borrow.Author.Tests.{eqb-true, eqb-false, ne_eqb, ltb-true, ltb-false}
use Rattle.services.specs.Ids.{status_response, ds301_ids, is_in, is_listed}
use Rattle.services.specs.Table.{holds, services_length, marked, table_of, ds301, TablesHold}
use Rattle.services.proofs.Ids.{unlisted_above, named}

-- its octet is not 0
abbrev pub is_held : List ℕ → ℕ → Bool
is_held t b = not (eqb (get_or t b 0) 0)

module _ (b : ℕ) where
  marked_here : (t : List ℕ) → b < length t → is_held (set t b 1) b ≡ true
  marked_here t h = rw (get_or-set_same t b 1 0 h)

  marked_else : (t : List ℕ) (x : ℕ) → (b ≡ x → ⊥) → is_held (set t x 1) b ≡ is_held t b
  marked_else t x n = rw (get_or-set_other t x b 1 0 n)

  pub marked_holds : (t ids : List ℕ) → b < length t → is_held (marked t ids) b ≡ is_in b ids || is_held t b
  unfolding marked
  marked_holds t [] h = refl
  marked_holds t (x ∷ ids) h =
      marked_holds (set t x 1) ids (simp length-set h) ∙ split (eqb x b) refl
    where
      split : (e : Bool) → eqb x b ≡ e → is_in b ids || is_held (set t x 1) b ≡ (e || is_in b ids) || is_held t b
      split true q = ap (λ (y : ℕ). is_in b ids || is_held (set t y 1) b) (eqb-true x b q) ∙ rw (marked_here t h) (or-true (is_in b ids))
      split false q = ap (λ (a : Bool). is_in b ids || a) (marked_else t x (λ e. eqb-false x b q (sym e)))

  past : (t : List ℕ) → length t ≤ b → is_held t b ≡ false
  past t h = rw (get_or-eq_default t 0 h)

  -- a table of IDs that hold StatusResponse holds them alone
  pub table_holds : (ids : List ℕ) → b < services_length → is_in status_response ids ≡ true → holds (table_of ids) b ≡ is_in b ids
  unfolding holds
  table_holds ids h two =
      let zeros : List ℕ = replicate services_length 0 in
      let long : b < length zeros = simp length-replicate h in
      let clear : is_held zeros b ≡ false = rw (get_or-replicate {A = ℕ} services_length b 0 0 h) in
      ap (λ (a : Bool). eqb b status_response || a) (marked_holds zeros ids long ∙ rw clear (or-false (is_in b ids)))
      ∙ split (eqb b status_response) refl
    where
      split : (e : Bool) → eqb b status_response ≡ e → e || is_in b ids ≡ is_in b ids
      split true q = sym (rw (eqb-true b status_response q) two)
      split false q = refl

  pub ds301_holds : holds ds301 b ≡ is_listed b
  unfolding holds marked
  ds301_holds = split (ltb b services_length) refl
    where
      split : (e : Bool) → ltb b services_length ≡ e → holds ds301 b ≡ is_listed b
      split true q = table_holds ds301_ids (ltb-true b services_length q) refl ∙ named b
      split false q =
          let h : services_length ≤ b = ltb-false b services_length q in
          ap (λ (a : Bool). a || is_held ds301 b) (ne_eqb b status_response (λ e. omega arith))
          ∙ past ds301 h
          ∙ sym (unlisted_above b (omega arith))

pub tables_hold : TablesHold
unfolding holds
tables_hold = record { status = λ t. refl; twelve = ds301_holds }
