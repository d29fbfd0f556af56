-- Under the table of DS 301 frames are read and written as 01 has it.
-- Assumes nothing.
use Prim.Native.Nat.{ℕ}
use mathlib.Core.Path.{◌≡◌, refl}
use mathlib.Core.List.{List}
use lib.ListN.{get_or, drop}
use Rattle.std.specs.Prelude.{Result, Ok, Err}
use Rattle.types.specs.Header.{eth_length}
use Rattle.types.specs.declared.hal.PowerlinkError.{PowerlinkError}
use Rattle.types.specs.declared.message_type.MessageType.TheVariants as message
use Rattle.types.specs.declared.message_type.MessageType.{MessageType}
use Rattle.services.specs.Table.{ds301}
use Rattle.services.proofs.Tables.{ds301_holds}
use Rattle.frame.specs.Write.{under_table}
use Rattle.frame.specs.declared.PowerlinkFrame.{PowerlinkFrame}
use Rattle.frame.specs.declared.PowerlinkFrame.TheVariants.{Soc, PReq, PRes, SoA, ASnd}
use Rattle.codec.specs.ASnd.{read_asnd}
use Rattle.codec.specs.Frame.{kind_of, kind_answer, read_frame, deserialized, deserialize_frame}
use Rattle.frame_laws.specs.Twelve.{section_in01, frame_in01, whole_in01, deserialized_in01, written_in01, TheTwelve}

read : (k : Result MessageType PowerlinkError) (s : List ℕ) → kind_answer ds301 k s ≡ section_in01 k s
unfolding read_asnd
read (Err e) s = refl
read (Ok message.SoC) s = refl
read (Ok message.PReq) s = refl
read (Ok message.PRes) s = refl
read (Ok message.SoA) s = refl
read (Ok message.ASnd) s = rw (ds301_holds (get_or s 3 0))

written : (f : PowerlinkFrame) (bs : List ℕ) → under_table ds301 f bs ≡ written_in01 f bs
written (Soc f) bs = refl
written (PReq f) bs = refl
written (PRes f) bs = refl
written (SoA f) bs = refl
written (ASnd f) bs = rw (ds301_holds f.service_id.0)

answered : (bytes : List ℕ) → read_frame ds301 bytes ≡ frame_in01 bytes
unfolding read_frame
answered bytes = read (kind_of bytes) (drop eth_length bytes)

placed : (bytes : List ℕ) (r : Result PowerlinkFrame PowerlinkError) → deserialized bytes r ≡ whole_in01 bytes r
placed bytes (Ok f) = refl
placed bytes (Err e) = refl

whole : (bytes : List ℕ) → deserialize_frame ds301 bytes ≡ deserialized_in01 bytes
unfolding deserialize_frame
whole bytes = rw (answered bytes) (placed bytes (frame_in01 bytes))

pub the_twelve : TheTwelve
the_twelve = record { reads = whole; writes = written }
