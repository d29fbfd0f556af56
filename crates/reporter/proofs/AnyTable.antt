-- The table makes no difference to an answer, to EA and to the head.
-- Assumes nothing.
use Prim.Native.Nat.{ℕ}
use mathlib.Core.Bool.{Bool, true≢false}
use mathlib.Core.Path.{◌≡◌, refl, sym, ap, ◌∙◌}
use mathlib.Core.Logic.{inl, inr}
use mathlib.Core.List.{List}
use lib.Seq.{get_or-drop}
use Rattle.std.specs.Prelude.{Result, Ok, Err, Option, Some, None}
use Rattle.types.specs.Header.{eth_length}
use Rattle.services.specs.Table.{holds}
use Rattle.section.specs.Write.{octets, Writes}
use Rattle.section.proofs.Coded.{writes_octets}
use Rattle.codec.proofs.AnyTable.{frames_told, frames_alike}
use Rattle.reporter.specs.AnyTable.{AnyTable, SixOrIgnored}
use Rattle.reporter.specs.Calls.{Answers}
use Rattle.reporter.specs.Layout.{head_of}
use Rattle.reporter.specs.Rules.{Head, opened, answer_frame, answer_writing, acknowledge_answer, after_acknowledge, ea_in_answer}
use Rattle.reporter.specs.declared.AnswerFields.{AnswerFields}
use Rattle.types.specs.declared.hal.PowerlinkError.{PowerlinkError}
use Rattle.frame.specs.declared.PowerlinkFrame.{PowerlinkFrame}

pub any_answer : (services : List ℕ) (f : AnswerFields) (h : Head) → answer_writing services f h ≡ octets (answer_frame f h)
unfolding holds
any_answer services f h = refl

-- so that an answer is written whenever it fits
pub answer_writes : (services : List ℕ) (f : AnswerFields) (r : Result ℕ PowerlinkError) (s after t written : List ℕ) → Answers services f r s after t written
    → Writes (answer_frame f (opened (head_of s))) r t written
answer_writes services f r s after t written a =
    writes_octets _ t r written (rw (any_answer services f (opened (head_of s))) at a.writes)

-- EA, where octets tell it
abbrev ea_or : Result (Option Bool) PowerlinkError → Option Bool
ea_or (Ok x) = x
ea_or (Err e) = None

ea_back : (x : Result (Option Bool) PowerlinkError) (ea : Bool) → ea_or x ≡ Some ea → x ≡ Ok (Some ea)
ea_back (Ok x) ea e = ap Ok e
ea_back (Err x) ea e = absurd (true≢false cc)

pub any_table : AnyTable
any_table =
    record {
      answer = any_answer;
      ea = λ services others i bytes ea e. ea_back _ ea (sym (frames_alike (λ (a : Result PowerlinkFrame PowerlinkError). ea_or (ea_in_answer i a)) (λ s n. refl) services others bytes) ∙ ap ea_or e);
      reading = λ services others i bytes h.
          frames_told (λ (a : Result PowerlinkFrame PowerlinkError). acknowledge_answer (ea_in_answer i a) h) (SixOrIgnored bytes) services others bytes
          (λ n. inl (rw (get_or-drop eth_length bytes 3 0) refl))
          (λ n. inr refl);
      head = λ services others i bytes h. frames_alike (λ (a : Result PowerlinkFrame PowerlinkError). after_acknowledge (acknowledge_answer (ea_in_answer i a) h) h) (λ s n. refl) services others bytes;
    }
