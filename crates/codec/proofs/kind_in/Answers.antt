-- `codec::kind_in` meets its contract: each arm names its kind.
-- Assumes nothing.
use native.Mathlib.Omega.{arith}
use Rattle.types.specs.declared.message_type.MessageType.TheVariants.{SoC, PReq, PRes, SoA, ASnd}
use Rattle.codec.proofs.FrameLaws.{section_known, section_unknown}
use Rattle.codec.proofs.kind_in.Goals as goal

pub returns-in_default : goal.returns-in_default
returns-in_default c =
    let r = c.in_default.in_default-own.rest in
    section_unknown _ _ c.byte_at-code.ensures r.0.1 r.1 (λ e. omega arith) (λ e. omega arith) (λ e. omega arith)

pub returns-in_default-code : goal.returns-in_default-code
returns-in_default-code c =
    let r = c.in_default-code.in_default-code-own.rest in
    section_unknown _ _ c.byte_at-code.ensures (λ e. omega arith) (λ e. omega arith) r.0.0.1 r.0.1 r.1

pub returns-in-1 : goal.returns-in-1
returns-in-1 c = section_known _ _ c.byte_at-code.ensures SoC c.in-1.is

pub returns-in-3 : goal.returns-in-3
returns-in-3 c = section_known _ _ c.byte_at-code.ensures PReq c.in-3.is

pub returns-in-4 : goal.returns-in-4
returns-in-4 c = section_known _ _ c.byte_at-code.ensures PRes c.in-4.is

pub returns-in-5 : goal.returns-in-5
returns-in-5 c = section_known _ _ c.byte_at-code.ensures SoA c.in-5.is

pub returns-in-6 : goal.returns-in-6
returns-in-6 c = section_known _ _ c.byte_at-code.ensures ASnd c.in-6.is
