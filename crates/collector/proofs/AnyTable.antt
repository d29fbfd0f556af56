-- The table makes no difference to what a box books.
-- Assumes nothing.
use Prim.Native.Nat.{ℕ}
use mathlib.Core.Path.{◌≡◌, refl, sym, ap, ◌∙◌}
use mathlib.Core.Logic.{inl, inr}
use mathlib.Core.List.{List}
use lib.ListN.{get_or, drop}
use lib.Seq.{get_or-drop}
use borrow.Author.Tests.{ne_eqb}
use mathlib.Core.Bool.{true≢false}
use Rattle.std.specs.Prelude.{Result, Ok, Err, Some, None, Option}
use Rattle.types.specs.Header.{eth_length}
use Rattle.types.specs.declared.NodeId.{NodeId}
use Rattle.types.specs.declared.hal.PowerlinkError.TheVariants.{InvalidServiceId}
use Rattle.services.specs.Ids.{status_response}
use Rattle.frame.specs.declared.PowerlinkFrame.TheVariants.{ASnd}
use Rattle.codec.specs.ASnd.{asnd_of}
use Rattle.codec.proofs.AnyTable.{IsOther, frames_told, frames_alike}
use Rattle.collector.specs.AnyTable.{AnyTable, SixOrTen}
use Rattle.collector.specs.Layout.{box_of, booking_bytes}
use Rattle.collector.specs.Rules.{when_booked, status_in, response_in_answer, response_in, response_answer, read_answer, after_booking}
use Rattle.frame.specs.declared.PowerlinkFrame.{PowerlinkFrame}
use Rattle.types.specs.declared.hal.PowerlinkError.{PowerlinkError}

-- no StatusResponse
other_in : (s : List ℕ) → IsOther s → response_in_answer (Ok (ASnd (asnd_of s))) ≡ Ok None
other_in s n = rw (ne_eqb (get_or s 3 0) status_response n) refl

-- what makes the same of a refused frame as of one that is no StatusResponse makes the same of every frame, under each table
heard_alike : {A : Type 0} (G : Result (Option NodeId) PowerlinkError → A) → ((b : ℕ) → G (Err (InvalidServiceId b)) ≡ G (Ok None)) → (services others f : List ℕ)
    → G (response_in services f) ≡ G (response_in others f)
heard_alike G same services others f =
    frames_alike (λ (a : Result PowerlinkFrame PowerlinkError). G (response_in_answer a)) (λ s n. rw (other_in s n) (same (get_or s 3 0))) services others f

-- whose StatusResponse it is
abbrev source_or : Result (Option NodeId) PowerlinkError → Option NodeId
source_or (Ok (Some source)) = Some source
source_or (Ok None) = None
source_or (Err e) = None

source_back : (x : Result (Option NodeId) PowerlinkError) (source : NodeId) → source_or x ≡ Some source → x ≡ Ok (Some source)
source_back (Ok (Some s)) source e = ap Ok e
source_back (Ok None) source e = absurd (true≢false cc)
source_back (Err x) source e = absurd (true≢false cc)

pub any_table : AnyTable
unfolding read_answer
any_table =
    record {
      status = λ services others f source e. source_back _ source (sym (heard_alike source_or (λ b. refl) services others f) ∙ ap source_or e);
      answer = λ services others f b.
          frames_told (λ (a : Result PowerlinkFrame PowerlinkError). response_answer (response_in_answer a) (status_in f) b) (SixOrTen f) services others f
          (λ n. inl (rw (get_or-drop eth_length f 3 0) refl))
          (λ n. inr (rw (other_in (drop eth_length f) n) refl));
      box = λ services others f b.
          heard_alike (λ (h : Result (Option NodeId) PowerlinkError). when_booked (response_answer h (status_in f) b) (after_booking h (status_in f) b) b) (λ x. refl) services others f;
      octets = λ services others f s.
          heard_alike (λ (h : Result (Option NodeId) PowerlinkError). when_booked (response_answer h (status_in f) (box_of s)) (booking_bytes h (status_in f) s) s) (λ x. refl) services others f;
    }
