-- What `flags` told may be put into a frame of the box's host.
-- Assumes nothing.
use Prim.Native.Nat.{ℕ}
use mathlib.Core.Bool.{Bool, false, true≢false}
use mathlib.Core.Path.{◌≡◌, refl, ap, ◌∙◌}
use mathlib.Core.List.{List}
use Rattle.std.specs.Prelude.{Ok, Some, None, Option}
use Rattle.control.specs.declared.soa.SoAFlags.{SoAFlags}
use Rattle.reporter.specs.Rules.{ea_told}
use Rattle.reporter.proofs.AnyTable.{any_table}
use Rattle.collector.specs.Layout.{account_of}
use Rattle.collector.specs.Rules.{Account, flags_answer}
use Rattle.signaling.specs.Calls.{ea_of, FlagsTell}

-- the EA that an answer of `flags` holds
abbrev told : Bool → Option SoAFlags → Bool
told other (Some f) = f.ea
told other None = other

flags_ea : (f : SoAFlags) (o : Option Account) → Some f ≡ flags_answer o → f.ea ≡ ea_of o
flags_ea f None e = absurd (true≢false cc)
flags_ea f (Some p) e = ap (told p.ea) e

no_ea : (o : Option Account) → None ≡ flags_answer o → false ≡ ea_of o
no_ea None e = refl
no_ea (Some p) e = absurd (true≢false cc)

-- EA is the same under every table
pub same_ea : (services others : List ℕ) (i : ℕ) (bs : List ℕ) {x y : Bool}
    → ea_told services i bs ≡ Ok (Some x) → ea_told others i bs ≡ Ok (Some y) → y ≡ x
same_ea services others i bs {x} me hears = let z = any_table.ea services others i bs x me in cc

pub flags_tell : FlagsTell
flags_tell =
    record {
      tells = λ services i s bs f c me others ea hears. same_ea services others i bs me hears ∙ flags_ea f (account_of s i) c.answer;
      unregistered = λ services i s bs c me others ea hears. same_ea services others i bs me hears ∙ no_ea (account_of s i) c.answer;
      silent = λ services i s bs none others ea hears. absurd (none ea (any_table.ea others services i bs ea hears));
    }
