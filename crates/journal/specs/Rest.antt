-- How far the listing is said, at each place of the program, and what is left to be listed.
-- Assumes nothing.
use Rattle.std.specs.Prelude.{ℕ, ◌+◌, ◌≤◌, ◌<◌, Bool, true, false, ◌≡◌, List, [], ◌++◌, length, take, drop, Option, Some, None, Result, Ok, Err}
use Rattle.journal_records.specs.Listing.{listing}
use Rattle.journal_records.specs.Parts.{text_from, needed}
use Rattle.journal_records.specs.declared.listing.ListError.TheVariants as refused
use Rattle.journal_records.specs.declared.listing.Stop.TheVariants as stop
use Rattle.journal_records.specs.declared.listing.Phase.{Phase}
use Rattle.journal_records.specs.declared.listing.Phase.TheVariants.{Records}
use Rattle.journal.specs.Streams.{has_room}
use Rattle.journal.specs.declared.End.{End}
use Rattle.journal.specs.declared.End.TheVariants as end
use Rattle.journal.specs.declared.Rest.{Rest}
use Rattle.journal.specs.declared.streams.Failed.{Failed}
use Rattle.journal.specs.declared.streams.Streams.{Streams}
use Rattle.journal_records.specs.declared.listing.Stop.{Stop}
use Rattle.journal_records.specs.declared.listing.ListError.{ListError}

-- `BUFFER_LEN` of main.rt
abbrev pub buffer_len : ℕ
buffer_len = 65536

abbrev pub Buffer : List ℕ → Type 0
Buffer s = buffer_len ≡ length s

-- the octets of a record, which are more than those of mark and version
abbrev pub record_len : ℕ
record_len = needed Records

-- calls go on, or it is over
abbrev pub rest_after : Result Stop ListError → Phase → ℕ → Option Rest
rest_after (Ok stop.More) p n = Some (record { phase = p; at = n })
rest_after (Ok stop.Full) p n = Some (record { phase = p; at = n })
rest_after (Ok stop.End) p n = None
rest_after (Err refused.BufferTooShort) p n = Some (record { phase = p; at = n })
rest_after (Err refused.NotAJournal) p n = None
rest_after (Err refused.UnknownVersion) p n = None
rest_after (Err refused.RecordInvalid) p n = None

-- what may follow the octets that were read: nothing, where the input has ended
abbrev pub Follows : Bool → List ℕ → Type 0
Follows ended rest = ended ≡ true → rest ≡ []

-- A text that may be said: of some octets, as many as were read, and whatever follows them, it is the piece of the listing at the
-- place that the count says. That they are the octets that the reads gave is not stated: no contract tells
pub record Says (s : Streams) (text : List ℕ) : Type 0 where
  pub good : s.failed ≡ false
  pub input : List ℕ
  pub read : length input ≡ s.got
  pub due : (rest : List ℕ) → Follows s.ended rest → take (length text) (drop s.said (listing (input ++ rest))) ≡ text

-- How far the program is: of some octets, as many as were read, and whatever follows them, the listing is a text, as long as what was
-- said, and then that of `left` and what follows, from phase q on
pub record Stands (s : Streams) (q : Phase) (left : List ℕ) : Type 0 where
  pub good : s.failed ≡ false
  pub input : List ℕ
  pub read : length input ≡ s.got
  pub text : List ℕ
  pub said : length text ≡ s.said
  pub due : (rest : List ℕ) → Follows s.ended rest → listing (input ++ rest) ≡ text ++ text_from q (left ++ rest)

-- all is said: of some octets, as many as were read, and whatever follows them, the listing is as long as what was said
pub record Done (s : Streams) : Type 0 where
  pub good : s.failed ≡ false
  pub input : List ℕ
  pub read : length input ≡ s.got
  pub said : (rest : List ℕ) → Follows s.ended rest → length (listing (input ++ rest)) ≡ s.said

-- a part s is listed up to `at`: less than a record is left, of which more has to come, and may. Nothing was read meanwhile
pub record Goes (s : List ℕ) (before after : Streams) (q : Phase) (at : ℕ) : Type 0 where
  pub stands : Stands after q (drop at s)
  pub within : at ≤ length s
  pub few : length s < at + record_len
  pub more : after.ended ≡ false
  pub ends : after.ended ≡ before.ended
  pub got : after.got ≡ before.got

-- what `list` promises of a part s
abbrev pub Listed : List ℕ → Streams → Streams → Result (Option Rest) Failed → Type 0
Listed s before after (Ok (Some r)) = Goes s before after r.phase r.at
Listed s before after (Ok None) = Done after
Listed s before after (Err e) = after.failed ≡ true

-- what is left, less than a record, is in front of the buffer, and more of it may come
pub record Keeps (after : Streams) (r : Rest) (text : List ℕ) : Type 0 where
  pub stands : Stands after r.phase (take r.at text)
  pub few : r.at < record_len
  pub more : after.ended ≡ false

-- what `list_held` promises: nothing was read
abbrev pub Left : Streams → Streams → Result (Option Rest) Failed → List ℕ → Type 0
Left before after (Ok (Some r)) text = Keeps after r text × ((after.ended ≡ before.ended) × (after.got ≡ before.got))
Left before after (Ok None) text = Done after
Left before after (Err e) text = after.failed ≡ true

-- what `turn` promises: something was read, where there is more
abbrev pub Waits : Streams → Streams → Result (Option Rest) Failed → List ℕ → Type 0
Waits before after (Ok (Some r)) text = Keeps after r text × (before.got < after.got)
Waits before after (Ok None) text = Done after
Waits before after (Err e) text = after.failed ≡ true

-- what the program's turns end in: all is said; a read or a write has failed; or a count is used up
abbrev pub InAll : Streams → Result Unit End → Type 0
InAll after (Ok u) = Done after
InAll after (Err end.Failed) = after.failed ≡ true
InAll after (Err end.TooLong) = has_room after ≡ false
