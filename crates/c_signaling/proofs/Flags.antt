-- What `powerlink_collector_flags` told may be put into a frame of the box's host.
-- Assumes nothing.
use mathlib.Core.Bool.{Bool, false}
use mathlib.Core.Path.{◌≡◌, refl, ◌∙◌}
use native.Mathlib.Omega.{arith}
use Rattle.std.specs.Prelude.{Option, Some, None}
use Rattle.error_entry.proofs.Values.{flag_told_lem}
use Rattle.collector.specs.Layout.{account_of}
use Rattle.collector.specs.Rules.{Account, flags_answer, flags_cause}
use Rattle.c_values.specs.Answers.{flag_told}
use Rattle.signaling.specs.Calls.{ea_of}
use Rattle.signaling.proofs.Host.{same_ea}
use Rattle.c_signaling.specs.Calls.{CFlagsTell}

told_ea : (p : Option Account) (a a' : Bool) → 0 ≡ (flags_cause (flags_answer p)).number → a' ≡ flag_told (flags_cause (flags_answer p)) 0 a → a' ≡ ea_of p
told_ea None a a' n e = absurd (omega arith)
told_ea (Some p) a a' n e = e ∙ flag_told_lem p.ea

no_ea : (p : Option Account) → 11 ≡ (flags_cause (flags_answer p)).number → false ≡ ea_of p
no_ea None n = refl
no_ea (Some p) n = absurd (omega arith)

pub c_flags_tell : CFlagsTell
c_flags_tell =
    record {
      tells = λ services i s bs a a' e e' c me others ea hears.
          same_ea services others i bs me hears ∙ told_ea (account_of s i) a a' c.cause c.ea;
      unregistered = λ services i s bs a a' e e' c me others ea hears. same_ea services others i bs me hears ∙ no_ea (account_of s i) c.cause;
    }
