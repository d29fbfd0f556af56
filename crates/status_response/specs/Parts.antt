-- What the parts of the StatusResponse writer leave: the contracts of private functions cite these, and no public one does.
-- Assumes nothing.
use Rattle.std.specs.Prelude.{ℕ, zero, suc, ◌+◌, ◌*◌, Bool, List, [], ◌∷◌, length, get_or, drop, replicate, leb, Result, Ok, Err}
use Rattle.std.proofs.lemmas.List.Edits.{sets}
use Rattle.types.specs.Codes.{pick}
use Rattle.types.specs.declared.hal.PowerlinkError.TheVariants.{BufferTooShort}
use Rattle.error_entry.specs.Entry.{entry_length, entry_bytes, terminator, read_entry, or_terminator}
use Rattle.error_entry.specs.declared.ErrorEntry.{ErrorEntry}
use Rattle.status_response.specs.Fields.{front_length}
use Rattle.status_response.specs.Steps.{status_length}
use Rattle.types.specs.declared.hal.PowerlinkError.{PowerlinkError}

-- the entry at a place of a list
abbrev pub entry_at_place : List ErrorEntry → ℕ → ErrorEntry
entry_at_place es i = get_or es i terminator

-- where the entry after the first i stands
abbrev pub entry_place : ℕ → ℕ
entry_place i = front_length + entry_length * i

-- whether n entries and the terminator fit behind what stands in front
unfoldable pub entries_fit : ℕ → ℕ → Bool
entries_fit n len = leb (status_length n) len

-- the answer: the length of n entries and the terminator with what stands in front, or 01's cause 1
abbrev pub entries_answer : ℕ → ℕ → Result ℕ PowerlinkError
entries_answer n len = pick (entries_fit n len) (Ok (status_length n)) (Err BufferTooShort)

-- the target once the first n entries are put, each at its place
abbrev pub entries_put : List ErrorEntry → List ℕ → ℕ → List ℕ
entries_put es t zero = t
entries_put es t (suc i) = sets (entries_put es t i) (entry_place i) (entry_bytes (entry_at_place es i))

-- the target once the terminator is put behind n entries, if it fits
abbrev pub terminated : ℕ → List ℕ → List ℕ
terminated n t = pick (entries_fit n (length t)) (sets t (entry_place n) (replicate entry_length 0)) t

-- n entries, one after the other, terminators in the place of those that are not there whole
abbrev pub batch_of : ℕ → List ℕ → List ErrorEntry
batch_of zero s = []
batch_of (suc n) s = or_terminator (read_entry s) ∷ batch_of n (drop entry_length s)
