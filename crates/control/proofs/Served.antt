-- What writing an ASnd under a table comes to, by whether the table holds its service.
-- Assumes nothing.
use Prim.Native.Nat.{ℕ, ◌≤◌, ◌<◌}
use mathlib.Core.Bool.{true, false}
use mathlib.Core.Path.{◌≡◌}
use mathlib.Core.List.{List}
use lib.ListN.{length}
use Rattle.std.specs.Prelude.{Result, Err}
use Rattle.types.specs.declared.hal.PowerlinkError.TheVariants.{BufferTooShort, InvalidServiceId}
use Rattle.services.specs.Table.{holds}
use Rattle.services.specs.declared.ServiceId.{ServiceId}
use Rattle.section.specs.Write.{Writes, Serializes}
use Rattle.section.proofs.Coded.{serializes, unnamed_refused, unnamed_short}
use Rattle.control.specs.ASnd.{served}
use Rattle.types.specs.declared.hal.PowerlinkError.{PowerlinkError}

module _ (services : List ℕ) (s : ServiceId) (bs t : List ℕ) where
  pub served_held : holds services s.0 ≡ true → (r : Result ℕ PowerlinkError) (after : List ℕ) → Writes bs r t after → Serializes (served services s bs) r t after
  served_held e r after w = rw e (serializes bs t r after w)

  module _ (e : holds services s.0 ≡ false) where
    pub served_refused : length bs ≤ length t → Serializes (served services s bs) (Err (InvalidServiceId s.0)) t t
    served_refused h = rw e (unnamed_refused (length bs) (InvalidServiceId s.0) t h)

    pub served_short : length t < length bs → Serializes (served services s bs) (Err BufferTooShort) t t
    served_short h = rw e (unnamed_short (length bs) (InvalidServiceId s.0) t h)
