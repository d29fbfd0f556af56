-- The causes of the demonstration by their numbers: 01's, and those that 02 adds.
-- Assumes nothing.
use Rattle.std.specs.Prelude.{ℕ}
use Rattle.types.specs.CauseNumbers as cause
use Rattle.demo.specs.declared.cause.Cause.{Cause}
use Rattle.demo.specs.declared.cause.Cause.TheVariants.{TooShort, NotPowerlink, InvalidFrame, UnknownMessage, UnknownState, UnknownService, UnknownRequest, EntryInvalid, QueueFull, NotStatusResponse, NotRegistered, BookFull, IdOutOfRange, IdRegistered, BoxFull, NothingBooked, NotATable, NotAscending, WithoutStatusResponse, StatusEntry}

abbrev pub number : Cause → ℕ
number TooShort = cause.too_short
number NotPowerlink = cause.not_powerlink
number InvalidFrame = cause.invalid_frame
number UnknownMessage = cause.unknown_message
number UnknownState = cause.unknown_state
number UnknownService = cause.unknown_service
number UnknownRequest = cause.unknown_request
number EntryInvalid = cause.entry_invalid
number QueueFull = cause.queue_full
number NotStatusResponse = cause.not_status_response
number NotRegistered = cause.not_registered
number BookFull = cause.book_full
number IdOutOfRange = cause.id_out_of_range
number IdRegistered = cause.id_registered
number BoxFull = cause.four_registered
number NothingBooked = cause.nothing_booked
number NotATable = cause.not_a_table
number NotAscending = cause.not_ascending
number WithoutStatusResponse = cause.without_status_response
number StatusEntry = cause.is_status_entry
