-- Numbers of several bytes, low byte first: one law for every width.
-- Assumes nothing.
use Prim.Native.Nat.{ℕ, zero, suc, ◌+◌, ◌-◌, ◌*◌, ◌/◌, ◌^◌, ◌≤◌, ◌<◌}
use mathlib.Core.Path.{◌≡◌, refl, sym, ap, ◌∙◌}
use mathlib.Core.List.{List, [], ◌∷◌, ◌++◌}
use native.Mathlib.Nat.{pow-zero, pow-succ', le_of_lt}
use native.Mathlib.Omega.{arith}
use lib.ListN.{length, take, drop, replicate, length-drop, length-replicate}
use lib.Seq.{sets, take_all, take-append-le, drop-append-le}
use Rattle.std.proofs.lemmas.List.{drop-replicate}
use Rattle.octets.specs.Numbers.{le, le_at, le_bytes}
use Rattle.octets.proofs.Sets.{sets_front}

-- the n bytes of a number that n bytes hold are read back as it
pub bytes_back : (n v : ℕ) → v < 256 ^ n → le (le_bytes n v) ≡ v
bytes_back zero v h = omega (arith, h, pow-zero 256)
bytes_back (suc n) v h =
    let k : v / 256 < 256 ^ n = omega (arith, pow-succ' 256 n) in
    rw (bytes_back n (v / 256) k) (omega arith)

-- octets with others behind them
pub number_front : (n at : ℕ) (s rest : List ℕ) → at + n ≤ length s → le_at n at (s ++ rest) ≡ le_at n at s
unfolding le_at
number_front n at s rest h =
    ap le (ap (take n) (drop-append-le at s rest (omega arith)) ∙ take-append-le n (drop at s) rest (rw length-drop (omega arith)))

-- a number from the octets that it was read of, where all are there
pub of_front : (n at v : ℕ) (s t octets : List ℕ) → t ≡ drop at s → octets ≡ take n t → v ≡ le octets → v ≡ le_at n at s
unfolding le_at
of_front n at v s t octets et eo ev = rw (ev, eo, et)

zeros_behind : (s : List ℕ) (n : ℕ) → le (s ++ replicate n 0) ≡ le s
zeros_behind [] zero = refl
zeros_behind [] (suc n) = omega (arith, zeros_behind [] n)
zeros_behind (x ∷ xs) n = ap (λ r. x + 256 * r) (zeros_behind xs n)

-- and where some are not, zeros in their place
pub of_padded : (n at v : ℕ) (s t octets : List ℕ) → t ≡ drop at s → length t < n → octets ≡ sets (replicate n 0) 0 t → v ≡ le octets → v ≡ le_at n at s
of_padded n at v s t octets et short eo ev =
    of_front n at v s t t et (sym (take_all n t (le_of_lt short)))
    (ev ∙ ap le (eo ∙ sets_front (replicate n 0) t (rw length-replicate (le_of_lt short)) ∙ ap (λ zs. t ++ zs) (drop-replicate (length t) n 0)) ∙ zeros_behind t (n - length t))
