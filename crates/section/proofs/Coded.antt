-- The cases of `Serializes`: octets that are written, and a code that names nothing, after the test of the length.
-- Assumes nothing.
use Prim.Native.Nat.{ℕ, ◌≤◌, ◌<◌}
use mathlib.Core.Path.{refl}
use mathlib.Core.List.{List}
use lib.ListN.{length}
use borrow.Author.Tests.{le-leb, lt-leb}
use Rattle.std.specs.Prelude.{Result, Err}
use Rattle.types.specs.declared.hal.PowerlinkError.{PowerlinkError}
use Rattle.types.specs.declared.hal.PowerlinkError.TheVariants.{BufferTooShort}
use Rattle.section.specs.Write.{Writes, octets, unnamed, Serializes}

pub serializes : (bs t : List ℕ) (r : Result ℕ PowerlinkError) (after : List ℕ) → Writes bs r t after → Serializes (octets bs) r t after
serializes bs t r after w = record { answer = w.answer; cause = w.cause; holds = w.holds }

-- and back: where every code names something, a writer writes
pub writes_octets : (bs t : List ℕ) (r : Result ℕ PowerlinkError) (after : List ℕ) → Serializes (octets bs) r t after → Writes bs r t after
writes_octets bs t r after w = record { answer = w.answer; cause = w.cause; holds = w.holds }

module _ (n : ℕ) (e : PowerlinkError) (t : List ℕ) where
  pub unnamed_refused : n ≤ length t → Serializes (unnamed n e) (Err e) t t
  unnamed_refused h = let k = le-leb n (length t) h in record { answer = rw k; cause = rw k; holds = refl }

  pub unnamed_short : length t < n → Serializes (unnamed n e) (Err BufferTooShort) t t
  unnamed_short h = let k = lt-leb n (length t) h in record { answer = rw k; cause = rw k; holds = refl }
