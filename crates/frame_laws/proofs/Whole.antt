-- What is read of a whole frame: its header, the frame, and the payload's place.
-- Assumes nothing.
use Prim.Native.Nat.{ℕ}
use mathlib.Core.Path.{◌≡◌, refl, subst}
use mathlib.Core.List.{List}
use lib.ListN.{drop}
use Rattle.std.specs.Prelude.{Result, Ok, Err}
use Rattle.types.specs.Header.{eth_header_of}
use Rattle.types.specs.declared.hal.PowerlinkError.{PowerlinkError}
use Rattle.frame.specs.declared.PowerlinkFrame.{PowerlinkFrame}
use Rattle.codec.specs.Frame.{read_frame, place_in_frame, deserialized, deserialize_frame}
use Rattle.codec.specs.declared.DeserializedFrame.{DeserializedFrame}
use Rattle.frame_laws.proofs.Tests.{no_value, one_value}

module _ (services bytes : List ℕ) (d : DeserializedFrame) where
  by_answer : (P : DeserializedFrame → Type 0)
      → ((f : PowerlinkFrame) → read_frame services bytes ≡ Ok f
      → P (record { eth_header = eth_header_of bytes; frame = f; payload_place = place_in_frame f (drop 14 bytes) })) → (r : Result PowerlinkFrame PowerlinkError)
      → read_frame services bytes ≡ r → deserialized bytes r ≡ Ok d → P d
  by_answer P read (Ok f) q e = subst P (one_value e) (read f q)
  by_answer P read (Err x) q e = absurd (no_value e)

  -- what holds of every frame that is read, with its header and its payload's place, holds of what is read
  pub by_frame : (P : DeserializedFrame → Type 0)
      → ((f : PowerlinkFrame) → read_frame services bytes ≡ Ok f
      → P (record { eth_header = eth_header_of bytes; frame = f; payload_place = place_in_frame f (drop 14 bytes) }))
      → deserialize_frame services bytes ≡ Ok d → P d
  unfolding deserialize_frame
  by_frame P read = by_answer P read (read_frame services bytes) refl

  pub frame_in_it : deserialize_frame services bytes ≡ Ok d → read_frame services bytes ≡ Ok d.frame
  frame_in_it = by_frame (λ x. read_frame services bytes ≡ Ok x.frame) (λ f q. q)
