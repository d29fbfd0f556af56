-- 01's table of causes, the column "Number", and the numbers that 02 adds. The names are those of include/powerlink.h.
-- Assumes nothing.
use Rattle.std.specs.Prelude.{ℕ}

-- input or target shorter than needed
abbrev pub too_short : ℕ
too_short = 1

-- EtherType not 88AB h
abbrev pub not_powerlink : ℕ
not_powerlink = 2

-- section empty, or PRes not to 255
abbrev pub invalid_frame : ℕ
invalid_frame = 3

-- message type unknown
abbrev pub unknown_message : ℕ
unknown_message = 4

-- NMT state unknown
abbrev pub unknown_state : ℕ
unknown_state = 5

-- service unknown
abbrev pub unknown_service : ℕ
unknown_service = 6

-- requested service unknown
abbrev pub unknown_request : ℕ
unknown_request = 7

-- raised entry of mode 0, or profile above 4,095
abbrev pub entry_invalid : ℕ
entry_invalid = 8

-- 16 already waiting
abbrev pub queue_full : ℕ
queue_full = 9

-- read frame is no StatusResponse
abbrev pub not_status_response : ℕ
not_status_response = 10

-- ID not registered
abbrev pub not_registered : ℕ
not_registered = 11

-- fewer free places than batch entries, of those that are booked (02, CR 2)
abbrev pub book_full : ℕ
book_full = 12

-- ID to register, or of a new head, not 1 to 239
abbrev pub id_out_of_range : ℕ
id_out_of_range = 13

-- ID registered already
abbrev pub id_registered : ℕ
id_registered = 14

-- four registered
abbrev pub four_registered : ℕ
four_registered = 15

-- nothing booked to take
abbrev pub nothing_booked : ℕ
nothing_booked = 16

-- journal under 5 bytes or mark wrong
abbrev pub not_a_journal : ℕ
not_a_journal = 17

-- journal version not 1
abbrev pub unknown_version : ℕ
unknown_version = 18

-- record cut, mode 0 or ID not 1 to 239
abbrev pub record_invalid : ℕ
record_invalid = 19

-- ---- 02, CR 1

-- table of services under 5 bytes, or its mark or version wrong
abbrev pub not_a_table : ℕ
not_a_table = 20

-- its IDs not strictly ascending
abbrev pub not_ascending : ℕ
not_ascending = 21

-- 2 not among them
abbrev pub without_status_response : ℕ
without_status_response = 22

-- ---- 02, CR 2

-- raised entry with bit 15 set
abbrev pub is_status_entry : ℕ
is_status_entry = 23
