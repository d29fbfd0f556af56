-- What a reader leaves to a caller in C: the numbers of what was read, or what stood there before.
-- Assumes nothing.
use Rattle.std.specs.Prelude.{ℕ, ◌≡◌, List, [], ◌∷◌, get_or, drop, Result, Ok, Err, Option, Some, None}
use Rattle.types.specs.Header.{eth_length}
use Rattle.types.specs.Messages.{message_code}
use Rattle.types.specs.declared.basic.EthernetHeader.{EthernetHeader}
use Rattle.codec.specs.Frame.{read_frame, place_in_frame, frame_cause}
use Rattle.codec.specs.Headers.{deserialize_eth_header, eth_header_cause, deserialize_pl_header, pl_header_cause}
use Rattle.error_entry.specs.Entry.{read_entry, entry_cause}
use Rattle.status_response.specs.BitField.{field_of, field_bytes, read_field, field_cause}
use Rattle.status_response.specs.Fields.{read_fields, status_cause}
use Rattle.status_response.specs.Steps.{step_at}
use Rattle.status_response.specs.declared.bit_field.RefusedErrorField.{RefusedErrorField}
use Rattle.status_response.specs.declared.bit_field.StaticErrorBitField.{StaticErrorBitField}
use Rattle.c_values.specs.Answers.{octet_told}
use Rattle.c_values.specs.Values.{frame_numbers, status_numbers, entry_numbers}
use Rattle.frame.specs.declared.PowerlinkFrame.{PowerlinkFrame}
use Rattle.types.specs.declared.hal.PowerlinkError.{PowerlinkError}
use Rattle.codec.specs.declared.headers.PlHeader.{PlHeader}
use Rattle.codec.specs.declared.headers.RefusedEthHeader.{RefusedEthHeader}
use Rattle.error_entry.specs.declared.ErrorEntry.{ErrorEntry}
use Rattle.status_response.specs.declared.fields.StatusFields.{StatusFields}

-- of a frame with the section s
abbrev pub frame_after : Result PowerlinkFrame PowerlinkError → List ℕ → List ℕ → List ℕ
frame_after (Err e) s before = before
frame_after (Ok f) s before = frame_numbers f (place_in_frame f s)

-- ---- headers

-- a part of the header
abbrev pub eth_after : {A : Type 0} → Result EthernetHeader RefusedEthHeader → (EthernetHeader → A) → A → A
eth_after (Ok h) part before = part h
eth_after (Err x) part before = before

abbrev pub pl_after : Result PlHeader PowerlinkError → List ℕ → List ℕ
pl_after (Ok h) before = message_code h.message_type ∷ h.destination.0 ∷ h.source.0 ∷ []
pl_after (Err e) before = before

-- ---- StatusResponse

abbrev pub status_after : Result StatusFields PowerlinkError → List ℕ → List ℕ
status_after (Ok f) before = status_numbers f
status_after (Err e) before = before

-- the 8 octets of the error field beside the answer
abbrev pub status_field_after : Result StatusFields PowerlinkError → StaticErrorBitField → List ℕ → List ℕ
status_field_after (Ok f) field before = field_bytes field
status_field_after (Err e) field before = before

abbrev pub field_after : Result StaticErrorBitField RefusedErrorField → List ℕ → List ℕ
field_after (Ok f) before = field_bytes f
field_after (Err x) before = before

abbrev pub entry_after : Result ErrorEntry PowerlinkError → List ℕ → List ℕ
entry_after (Ok e) before = entry_numbers e
entry_after (Err e) before = before

-- a step: the entry, and the offset after it; at the end the values as they were, and the offset 0
abbrev pub step_after : Option (ErrorEntry × ℕ) → List ℕ → List ℕ
step_after (Some found) before = entry_numbers found.0
step_after None before = before

abbrev pub next_after : Option (ErrorEntry × ℕ) → ℕ
next_after (Some found) = found.1
next_after None = 0

-- ---- the calls: v, d, o and the like stand before, and v', d', o' after

pub record FrameRead (services f : List ℕ) (r : ℕ) (v v' : List ℕ) (o o' : ℕ) : Type 0 where
  pub cause : r ≡ (frame_cause (read_frame services f)).number
  pub values : v' ≡ frame_after (read_frame services f) (drop eth_length f) v
  pub octet : o' ≡ get_or (frame_cause (read_frame services f)).returned 0 o

-- the same of the section s, to which the rules answer a
pub record SectionRead (a : Result PowerlinkFrame PowerlinkError) (s : List ℕ) (r : ℕ) (v v' : List ℕ) (o o' : ℕ) : Type 0 where
  pub cause : r ≡ (frame_cause a).number
  pub values : v' ≡ frame_after a s v
  pub octet : o' ≡ get_or (frame_cause a).returned 0 o

pub record EthRead (f : List ℕ) (r : ℕ) (d d' s s' : List ℕ) (t t' : ℕ) : Type 0 where
  pub cause : r ≡ (eth_header_cause (deserialize_eth_header f)).number
  pub destination : d' ≡ eth_after (deserialize_eth_header f) (λ h. h.destination_mac.0) d
  pub source : s' ≡ eth_after (deserialize_eth_header f) (λ h. h.source_mac.0) s
  pub ether_type : t' ≡ eth_after (deserialize_eth_header f) (λ h. h.ether_type) t

pub record PlRead (s : List ℕ) (r : ℕ) (v v' : List ℕ) (o o' : ℕ) : Type 0 where
  pub cause : r ≡ (pl_header_cause (deserialize_pl_header s)).number
  pub values : v' ≡ pl_after (deserialize_pl_header s) v
  pub octet : o' ≡ octet_told (pl_header_cause (deserialize_pl_header s)) o

pub record StatusRead (s : List ℕ) (r : ℕ) (v v' f f' : List ℕ) (o o' : ℕ) : Type 0 where
  pub cause : r ≡ (status_cause (read_fields s)).number
  pub values : v' ≡ status_after (read_fields s) v
  pub field : f' ≡ status_field_after (read_fields s) (field_of (drop 6 s)) f
  pub octet : o' ≡ get_or (status_cause (read_fields s)).returned 0 o

pub record FieldRead (s : List ℕ) (r : ℕ) (f f' : List ℕ) : Type 0 where
  pub cause : r ≡ (field_cause (read_field s)).number
  pub field : f' ≡ field_after (read_field s) f

pub record EntryRead (s : List ℕ) (r : ℕ) (v v' : List ℕ) : Type 0 where
  pub cause : r ≡ (entry_cause (read_entry s)).number
  pub values : v' ≡ entry_after (read_entry s) v

pub record StepRead (s : List ℕ) (offset r : ℕ) (v v' : List ℕ) (n' : ℕ) : Type 0 where
  pub cause : r ≡ 0
  pub values : v' ≡ step_after (step_at s offset) v
  pub next : n' ≡ next_after (step_at s offset)
