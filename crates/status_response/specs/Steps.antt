-- The entries behind the front of a StatusResponse: reading them, by list and by step, and their octets.
-- Assumes nothing.
use Rattle.std.specs.Prelude.{ℕ, zero, suc, ◌+◌, ◌*◌, ◌-◌, ◌≡◌, List, [], ◌∷◌, ◌++◌, length, drop, replicate, leb, Option, Some, None, MatchOption}
use Rattle.std.specs.Iterator.{YieldsFirst}
use Rattle.types.specs.Codes.{need}
pub use Rattle.types.specs.Modes.{unless_terminator}
use Rattle.error_entry.specs.Entry.{entry_length, entry_of, entry_bytes}
use Rattle.error_entry.specs.declared.ErrorEntry.{ErrorEntry}
use Rattle.status_response.specs.Fields.{front_length}
use Rattle.status_response.specs.declared.walk.EntryWalk.{EntryWalk}

-- at most n entries: reading stops at mode 0 or with fewer octets left than an entry has
abbrev pub entries_in : ℕ → List ℕ → List ErrorEntry
entries_in zero s = []
entries_in (suc n) s =
    need (leb entry_length (length s)) []
    (unless_terminator (entry_of s).entry_type.mode (entry_of s ∷ entries_in n (drop entry_length s)) [])

-- the entries of a payload from an offset on; it has too few octets for more than this bound
unfoldable pub entries_from : List ℕ → ℕ → List ErrorEntry
entries_from s offset = entries_in (length s) (drop offset s)

-- the entries of a payload
unfoldable pub status_entries : List ℕ → List ErrorEntry
status_entries s = entries_in (length s) (drop front_length s)

-- the entry at an offset with the offset after it, or the end
unfoldable pub step_at : List ℕ → ℕ → Option (ErrorEntry × ℕ)
step_at s offset =
    need (leb entry_length (length s)) None
    (need (leb offset (length s - entry_length)) None
    (unless_terminator (entry_of (drop offset s)).entry_type.mode (Some ((entry_of (drop offset s)), (offset + entry_length))) None))

-- the entries that a walk has left
abbrev pub left_of : EntryWalk → List ErrorEntry
left_of w = entries_from w.payload.now w.offset

-- a walk's step: it gives the first of the entries that are left, which is that at the walk's offset, and stands behind it; or it gives
-- the end, and stands where it stood
abbrev pub Walks : EntryWalk → Option ErrorEntry → EntryWalk → Type 0
Walks w given after =
    YieldsFirst left_of w given after
    × MatchOption given ((step_at w.payload.now w.offset ≡ None) × (after ≡ w))
    (λ e. (step_at w.payload.now w.offset ≡ Some (e, after.offset)) × (after.payload ≡ w.payload))

-- the octets of entries, one after the other
abbrev pub entries_bytes : List ErrorEntry → List ℕ
entries_bytes [] = []
entries_bytes (e ∷ es) = entry_bytes e ++ entries_bytes es

-- a whole payload: what stands in front, the entries, and the terminator, an entry of zeros
unfoldable pub status_bytes : List ℕ → List ErrorEntry → List ℕ
status_bytes head es = head ++ entries_bytes es ++ replicate entry_length 0

-- how many octets a payload of n entries has
abbrev pub status_length : ℕ → ℕ
status_length n = front_length + entry_length + entry_length * n
