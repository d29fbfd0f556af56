-- 01's numbers and values of what reading a frame, and each of its headers, answers: 0, or the error's, and no two errors have the same.
-- Assumes nothing.
use Rattle.std.specs.Prelude.{◌≡◌, [], ◌∷◌, Result, Ok, Err}
use Rattle.types.specs.Causes.{row, cause_of}
use Rattle.types.specs.Messages.{message_code}
use Rattle.types.specs.declared.basic.EthernetHeader.{EthernetHeader}
use Rattle.types.specs.declared.hal.PowerlinkError.{PowerlinkError}
use Rattle.frame.specs.declared.PowerlinkFrame.{PowerlinkFrame}
use Rattle.codec.specs.Frame.{frame_cause}
use Rattle.codec.specs.Headers.{eth_header_cause, pl_header_cause}
use Rattle.codec.specs.declared.headers.PlHeader.{PlHeader}
use Rattle.codec.specs.declared.headers.RefusedEthHeader.{RefusedEthHeader}

pub record CausesTell : Type 0 where
  -- the fields of a frame are its values
  pub frame : (f : PowerlinkFrame) → frame_cause (Ok f) ≡ row 0 []
  pub no_frame : (e : PowerlinkError) → frame_cause (Err e) ≡ cause_of e
  pub frames_apart : (d e : PowerlinkError) → frame_cause (Err d) ≡ frame_cause (Err e) → d ≡ e
  pub frame_or_not : (f : PowerlinkFrame) (e : PowerlinkError) → frame_cause (Ok f) ≡ frame_cause (Err e) → ⊥
  -- and so are those of an Ethernet header
  pub eth_header : (h : EthernetHeader) → eth_header_cause (Ok h) ≡ row 0 []
  pub no_eth_header : (x : RefusedEthHeader) → eth_header_cause (Err x) ≡ cause_of x.error
  pub eth_headers_apart : (x y : RefusedEthHeader) → eth_header_cause (Err x) ≡ eth_header_cause (Err y) → x.error ≡ y.error
  pub eth_header_or_not : (h : EthernetHeader) (x : RefusedEthHeader) → eth_header_cause (Ok h) ≡ eth_header_cause (Err x) → ⊥
  pub pl_header : (h : PlHeader)
      → pl_header_cause (Ok h) ≡ row 0 (message_code h.message_type ∷ h.destination.0 ∷ h.source.0 ∷ [])
  pub no_pl_header : (e : PowerlinkError) → pl_header_cause (Err e) ≡ cause_of e
  pub pl_headers_apart : (a b : Result PlHeader PowerlinkError) → pl_header_cause a ≡ pl_header_cause b → a ≡ b
