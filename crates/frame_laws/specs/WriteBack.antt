-- A frame that is read is written back, where the bits and octets that its kind does not name are 0. 01: "Unnamed bits and bytes are written
-- 0 and ignored on reading"; the names are those of 01's list of kinds.
-- Assumes nothing.
use Rattle.std.specs.Prelude.{ℕ, ◌+◌, ◌*◌, ◌≤◌, ◌<◌, ◌≡◌, false, List, [], ◌∷◌, ◌++◌, length, get_or, take, drop, replicate, Ok}
use Rattle.octets.specs.Numbers.{bit}
use Rattle.types.specs.Header.{eth_length}
use Rattle.section.specs.Write.{min_section, padded, octets}
use Rattle.control.specs.SoA.{soa_fields_length}
use Rattle.control.specs.SoC.{soc_fields_length}
use Rattle.poll.specs.Poll.{poll_fields_length}
use Rattle.frame.specs.Write.{frame_section, frame_bytes, under_table}
use Rattle.frame.specs.declared.PowerlinkFrame.{PowerlinkFrame}
use Rattle.frame.specs.declared.PowerlinkFrame.TheVariants.{Soc, PReq, PRes, SoA, ASnd}
use Rattle.codec.specs.Frame.{read_section, place_in_frame, deserialize_frame, payload_of}
use Rattle.codec.specs.declared.DeserializedFrame.{DeserializedFrame}
use Rattle.error_entry.specs.Entry.{entry_length}
use Rattle.error_entry.specs.declared.ErrorEntry.{ErrorEntry}
use Rattle.status_response.specs.BitField.{field_of}
use Rattle.status_response.specs.Fields.{front_length, head_bytes, read_fields}
use Rattle.status_response.specs.ReadBack.{EachInRange, until_terminator}
use Rattle.status_response.specs.Steps.{status_bytes, status_entries}
use Rattle.status_response.specs.declared.bit_field.StaticErrorBitField.{StaticErrorBitField}
use Rattle.status_response.specs.declared.fields.StatusFields.{StatusFields}
use Rattle.frame_laws.specs.ReadBack.{Faithful}

abbrev pub Octets : List ℕ → Type 0
Octets s = (i : ℕ) → get_or s i 0 < 256

-- ---- what a kind does not name

-- these bits of an octet are 0
abbrev pub Clear : List ℕ → ℕ → Type 0
Clear [] octet = Unit {0}
Clear (k ∷ ks) octet = (bit k octet ≡ false) × Clear ks octet

-- behind the first n octets stand only the zeros up to the smallest section
abbrev pub PaddedFrom : ℕ → List ℕ → Type 0
PaddedFrom n s = s ≡ padded (take n s)

-- EPSG DS 301, 4.6.1: octet 0 is the message type, in seven bits
abbrev pub type_unnamed : List ℕ
type_unnamed = 7 ∷ []

-- 4.6.1.1.2: octet 4 has mc at bit 7 and ps at bit 6; octets 3 and 5 are not named
abbrev pub soc_unnamed : List ℕ
soc_unnamed = 5 ∷ 4 ∷ 3 ∷ 2 ∷ 1 ∷ 0 ∷ []

pub record PlainSoC (s : List ℕ) : Type 0 where
  pub message : Clear type_unnamed (get_or s 0 0)
  pub octet3 : get_or s 3 0 ≡ 0
  pub flags : Clear soc_unnamed (get_or s 4 0)
  pub octet5 : get_or s 5 0 ≡ 0
  pub behind : PaddedFrom soc_fields_length s

-- 4.6.1.1.3: octet 4 has ms at bit 5, ea at bit 2 and rd at bit 0; octets 3, 5 and 7 are not named
abbrev pub preq_unnamed : List ℕ
preq_unnamed = 7 ∷ 6 ∷ 4 ∷ 3 ∷ 1 ∷ []

pub record PlainPReq (size : ℕ) (s : List ℕ) : Type 0 where
  pub message : Clear type_unnamed (get_or s 0 0)
  pub octet3 : get_or s 3 0 ≡ 0
  pub flags : Clear preq_unnamed (get_or s 4 0)
  pub octet5 : get_or s 5 0 ≡ 0
  pub octet7 : get_or s 7 0 ≡ 0
  pub behind : PaddedFrom (poll_fields_length + size) s

-- 4.6.1.1.4: octet 4 has ms at bit 5, en at bit 4 and rd at bit 0, octet 5 pr at bits 5 to 3 and rs at bits 2 to 0; octet 7 is not named
abbrev pub pres_unnamed : List ℕ
pres_unnamed = 7 ∷ 6 ∷ 3 ∷ 2 ∷ 1 ∷ []

abbrev pub poll_unnamed : List ℕ
poll_unnamed = 7 ∷ 6 ∷ []

pub record PlainPRes (size : ℕ) (s : List ℕ) : Type 0 where
  pub message : Clear type_unnamed (get_or s 0 0)
  pub flags : Clear pres_unnamed (get_or s 4 0)
  pub requests : Clear poll_unnamed (get_or s 5 0)
  pub octet7 : get_or s 7 0 ≡ 0
  pub behind : PaddedFrom (poll_fields_length + size) s

-- 4.6.1.1.5: octet 4 has ea at bit 2 and er at bit 1; octet 5 is not named
abbrev pub soa_unnamed : List ℕ
soa_unnamed = 7 ∷ 6 ∷ 5 ∷ 4 ∷ 3 ∷ 0 ∷ []

pub record PlainSoA (s : List ℕ) : Type 0 where
  pub message : Clear type_unnamed (get_or s 0 0)
  pub flags : Clear soa_unnamed (get_or s 4 0)
  pub octet5 : get_or s 5 0 ≡ 0
  pub behind : PaddedFrom soa_fields_length s

-- 4.6.1.1.6: all else is named, and the section has the smallest size at least. Zeros that reading takes from the end of the payload
-- of a smallest section are its padding, so nothing is asked of them
pub record PlainASnd (s : List ℕ) : Type 0 where
  pub message : Clear type_unnamed (get_or s 0 0)
  pub long : min_section ≤ length s

abbrev pub Plain : PowerlinkFrame → List ℕ → Type 0
Plain (Soc f) s = PlainSoC s
Plain (PReq f) s = PlainPReq f.payload_size s
Plain (PRes f) s = PlainPRes f.payload_size s
Plain (SoA f) s = PlainSoA s
Plain (ASnd f) s = PlainASnd s

-- 7.3.3.3.1: octet 0 has en at bit 5 and ec at bit 4, octet 1 pr and rs as in PRes; octets 3 to 5 are not named. An entry has no bit
-- without a name; behind the entries stands a terminator of zeros, and nothing more
abbrev pub status_unnamed : List ℕ
status_unnamed = 7 ∷ 6 ∷ 3 ∷ 2 ∷ 1 ∷ 0 ∷ []

pub record PlainStatus (s : List ℕ) : Type 0 where
  pub flags : Clear status_unnamed (get_or s 0 0)
  pub requests : Clear poll_unnamed (get_or s 1 0)
  pub octet3 : get_or s 3 0 ≡ 0
  pub octet4 : get_or s 4 0 ≡ 0
  pub octet5 : get_or s 5 0 ≡ 0
  pub behind : drop (front_length + entry_length * length (status_entries s)) s ≡ replicate entry_length 0

-- ---- what is read is written back

-- the payload of a section, as it lies behind 14 octets of any header
abbrev pub payload_in : PowerlinkFrame → List ℕ → List ℕ
payload_in f s = payload_of (place_in_frame f s) (replicate eth_length 0 ++ s)

pub record SectionsWriteBack : Type 0 where
  pub sections : (services s : List ℕ) (f : PowerlinkFrame) → Octets s → read_section services s ≡ Ok f → Plain f s
      → frame_section f (payload_in f s) ≡ s
  pub frames : (services bytes : List ℕ) (d : DeserializedFrame) → Octets bytes → deserialize_frame services bytes ≡ Ok d
      → Plain d.frame (drop eth_length bytes) → frame_bytes d.eth_header d.frame (payload_of d.payload_place bytes) ≡ bytes
  -- under the table that it was read under, no writer refuses it with 6
  pub held : (services bytes : List ℕ) (d : DeserializedFrame) → deserialize_frame services bytes ≡ Ok d
      → (bs : List ℕ) → under_table services d.frame bs ≡ octets bs
  pub statuses : (s : List ℕ) (f : StatusFields) → Octets s → read_fields s ≡ Ok f → PlainStatus s
      → status_bytes (head_bytes f (field_of (drop 6 s))) (status_entries s) ≡ s
  -- and no more is asked than writing gives: whatever reads back is plain where it is written
  pub plain_sections : (services : List ℕ) (f : PowerlinkFrame) (payload : List ℕ) → Faithful services f payload → Plain f (frame_section f payload)
  pub plain_statuses : (f : StatusFields) (field : StaticErrorBitField) (es : List ErrorEntry) → EachInRange es → until_terminator es ≡ es
      → PlainStatus (status_bytes (head_bytes f field) es)
