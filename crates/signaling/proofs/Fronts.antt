-- What is read of the octets in front of the entries goes by them alone.
-- Assumes nothing.
use Prim.Native.Nat.{ℕ, ◌+◌, ◌*◌, ◌%◌, ◌^◌, ◌≤◌, ◌<◌}
use mathlib.Core.Path.{◌≡◌, refl, sym, ◌∙◌}
use mathlib.Core.List.{List}
use native.Mathlib.Omega.{arith}
use lib.ListN.{length, get_or, drop, length-drop}
use lib.Seq.{get_or-drop, drop-drop}
use lib.Dec.{eqb}
use borrow.Author.Tests.{le-leb, lt-ltb}
use Rattle.std.specs.Prelude.{Result, Ok, Err}
use Rattle.octets.specs.Numbers.{be_at}
use Rattle.types.specs.Codes.{need}
use Rattle.types.specs.Header.{ethertype_epl}
use Rattle.types.specs.Messages.{message_of}
use Rattle.types.specs.States.{state_of}
use Rattle.types.specs.declared.hal.PowerlinkError.TheVariants.{InvalidEthernetFrame, InvalidServiceId}
use Rattle.types.specs.declared.hal.PowerlinkError.{PowerlinkError}
use Rattle.types.specs.declared.message_type.MessageType.{MessageType}
use Rattle.types.specs.declared.states.NmtState.{NmtState}
use Rattle.services.specs.Table.{holds}
use Rattle.frame.specs.declared.PowerlinkFrame.TheVariants.{ASnd}
use Rattle.frame.specs.declared.PowerlinkFrame.{PowerlinkFrame}
use Rattle.codec.specs.ASnd.{read_asnd}
use Rattle.codec.specs.Frame.{kind_in, kind_of, read_frame}
use Rattle.status_response.specs.Fields.{status_by_state, read_fields}
use Rattle.signaling.specs.Arrival.{IsASnd, entries_at}

-- two frames that agree in front of their entries
pub record Agree (f g : List ℕ) : Type 0 where
  pub left : entries_at ≤ length f
  pub right : entries_at ≤ length g
  pub at : (i : ℕ) → i < entries_at → get_or f i 0 ≡ get_or g i 0

-- ---- the frame

-- by the octets that are looked at
abbrev kind_told : ℕ → ℕ → ℕ → Result MessageType PowerlinkError
kind_told a b m =
    need (eqb (256 ^ 1 * a + (256 ^ 0 * b + 0)) ethertype_epl) (Err InvalidEthernetFrame) (message_of (m % 0x80))

abbrev asnd_told : List ℕ → ℕ → ℕ → ℕ → Result PowerlinkFrame PowerlinkError
asnd_told services d s v =
    need (holds services v) (Err (InvalidServiceId v))
    (Ok (ASnd (record { destination = record { 0 = d }; source = record { 0 = s }; service_id = record { 0 = v } })))

module _ (f : List ℕ) (h : entries_at ≤ length f) where
  pub kind_told_lem : kind_of f ≡ kind_told (get_or f 12 0) (get_or f 13 0) (get_or f 14 0)
  unfolding kind_of kind_in be_at
  kind_told_lem =
      rw (
        le-leb 14 (length f) (omega arith),
        lt-ltb 14 (length f) (omega arith),
        drop-drop 1 12 f,
        get_or-drop 12 f 0 0,
        get_or-drop 13 f 0 0,
        get_or-drop 14 f 0 0,
      )

  frame_told : (services : List ℕ) → IsASnd f → read_frame services f ≡ asnd_told services (get_or f 15 0) (get_or f 16 0) (get_or f 17 0)
  unfolding read_frame read_asnd
  frame_told services k =
      let n : 4 ≤ length (drop 14 f) = omega (arith, length-drop 14 f) in
      rw (k, le-leb 4 (length (drop 14 f)) n, get_or-drop 14 f 1 0, get_or-drop 14 f 2 0, get_or-drop 14 f 3 0)

module _ {f g : List ℕ} (y : Agree f g) where
  pub kinds_agree : kind_of g ≡ kind_of f
  kinds_agree =
      kind_told_lem g y.right
      ∙ rw (← (y.at 12 (omega arith)), ← (y.at 13 (omega arith)), ← (y.at 14 (omega arith))) (sym (kind_told_lem f y.left))

  pub frames_agree : (services : List ℕ) → IsASnd f → read_frame services g ≡ read_frame services f
  frames_agree services k =
      frame_told g y.right services (kinds_agree ∙ k)
      ∙ rw (← (y.at 15 (omega arith)), ← (y.at 16 (omega arith)), ← (y.at 17 (omega arith))) (sym (frame_told f y.left services k))

-- ---- the fields of the StatusResponse

by_state : (s t : List ℕ) (a : Result NmtState PowerlinkError) → get_or s 0 0 ≡ get_or t 0 0 → get_or s 1 0 ≡ get_or t 1 0
    → status_by_state s a ≡ status_by_state t a
by_state s t (Err x) e k = refl
by_state s t (Ok v) e k = rw (e, k)

module _ {f g : List ℕ} (y : Agree f g) where
  octet : (i : ℕ) → 18 + i < entries_at → get_or (drop 18 g) i 0 ≡ get_or (drop 18 f) i 0
  octet i h = get_or-drop 18 g i 0 ∙ sym (y.at (18 + i) h) ∙ sym (get_or-drop 18 f i 0)

  pub fields_agree : read_fields (drop 18 g) ≡ read_fields (drop 18 f)
  unfolding read_fields
  fields_agree =
      let a : 14 ≤ length (drop 18 f) = omega (arith, length-drop 18 f, y.left) in
      let b : 14 ≤ length (drop 18 g) = omega (arith, length-drop 18 g, y.right) in
      rw (le-leb 14 (length (drop 18 f)) a, le-leb 14 (length (drop 18 g)) b, octet 2 (omega arith))
      (by_state (drop 18 g) (drop 18 f) (state_of (get_or (drop 18 f) 2 0)) (octet 0 (omega arith)) (octet 1 (omega arith)))
