-- The definitions of frames go by these constants.
-- Assumes nothing.
use mathlib.Core.Path.{refl}
use Rattle.types.specs.Constants.{ConstantsTell}

pub constants_tell : ConstantsTell
constants_tell =
    record { ethertype = refl; controlled = refl; managing = refl; broadcast = refl; soc = refl; pres = refl; soa = refl; asnd = refl }
