-- A StatusResponse that is written is read back: what stands in front, the error field, and the entries, which the steps of a walk find.
-- Assumes nothing.
use Rattle.std.specs.Prelude.{ℕ, zero, suc, ◌≤◌, ◌≡◌, List, [], ◌∷◌, ◌++◌, length, drop, Ok, Option, Some, None}
use Rattle.error_entry.specs.ReadBack.{InRange}
use Rattle.error_entry.specs.declared.ErrorEntry.{ErrorEntry}
use Rattle.status_response.specs.BitField.{field_of}
use Rattle.status_response.specs.Fields.{front_length, head_bytes, read_fields}
use Rattle.status_response.specs.Steps.{status_bytes, entries_from, status_entries, step_at, unless_terminator}
use Rattle.status_response.specs.declared.bit_field.StaticErrorBitField.{StaticErrorBitField}
use Rattle.status_response.specs.declared.fields.StatusFields.{StatusFields}

-- the entry of a step in front of those that the steps from its offset on find
abbrev pub stepped : Option (ErrorEntry × ℕ) → (ℕ → List ErrorEntry) → List ErrorEntry
stepped (Some (e, next)) more = e ∷ more next
stepped None more = []

-- the entries that at most n steps from an offset on find
abbrev pub walked : ℕ → List ℕ → ℕ → List ErrorEntry
walked zero s offset = []
walked (suc n) s offset = stepped (step_at s offset) (walked n s)

-- the entries in front of the first whose mode is the terminator's
abbrev pub until_terminator : List ErrorEntry → List ErrorEntry
until_terminator [] = []
until_terminator (e ∷ es) = unless_terminator e.entry_type.mode (e ∷ until_terminator es) []

-- the numbers of each entry are of their widths: the profile's is 12 bits, and only it is narrower than its type
abbrev pub EachInRange : List ErrorEntry → Type 0
EachInRange [] = Unit {0}
EachInRange (e ∷ es) = InRange e × EachInRange es

-- Octets behind the terminator change nothing: a target keeps what it held there, and the smallest section is padded.
pub record StatusReadsBack : Type 0 where
  -- the steps from the front's end on find the entries of a payload, and end by themselves: any more steps find nothing more
  pub steps : (n : ℕ) (s : List ℕ) → length s ≤ n → walked n s front_length ≡ status_entries s
  -- and so does the walk that is an iterator, which yields the entries from its offset on
  pub walk : (s : List ℕ) → entries_from s front_length ≡ status_entries s
  -- above 7 rs counts as 7
  pub fields : (f : StatusFields) (field : StaticErrorBitField) (es : List ErrorEntry) (behind : List ℕ) → f.rs.0 ≤ 7
      → read_fields (status_bytes (head_bytes f field) es ++ behind) ≡ Ok f
  pub field : (f : StatusFields) (field : StaticErrorBitField) (es : List ErrorEntry) (behind : List ℕ) → length field.specific_errors ≡ 7
      → field_of (drop 6 (status_bytes (head_bytes f field) es ++ behind)) ≡ field
  -- profiles are asked to be below 4,096: writing masks what lies above
  pub entries : (f : StatusFields) (field : StaticErrorBitField) (es : List ErrorEntry) (behind : List ℕ) → EachInRange es
      → status_entries (status_bytes (head_bytes f field) es ++ behind) ≡ until_terminator es
