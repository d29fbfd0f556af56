-- The listing of a journal that comes in parts: what one call does with a part.
-- Assumes nothing.
use Rattle.std.specs.Prelude.{ℕ, zero, suc, ◌+◌, ◌-◌, Bool, true, false, ◌&&◌, ◌≡◌, List, [], ◌∷◌, ◌++◌, length, drop, leb, ltb, eqb, Result, Ok, Err}
use Rattle.std.proofs.lemmas.List.Edits.{sets}
use Rattle.octets.specs.Numbers.{le_at}
use Rattle.types.specs.CauseNumbers as cause
use Rattle.types.specs.Causes.{Cause, row}
use Rattle.types.specs.Codes.{pick, need}
use Rattle.journal_records.specs.Listing.{Version, known, other, version1, layout_of, header_line, record_line, refused_line, line_most, good_record, lines, marked, listing}
use Rattle.journal_records.specs.declared.listing.ListError.TheVariants.{BufferTooShort, NotAJournal, UnknownVersion, RecordInvalid}
use Rattle.journal_records.specs.declared.listing.Stop.TheVariants.{More, Full, End}
use Rattle.journal_records.specs.declared.listing.Part.{Part}
use Rattle.journal_records.specs.declared.listing.Phase.{Phase}
use Rattle.journal_records.specs.declared.listing.Phase.TheVariants.{Header, Records}
use Rattle.journal_records.specs.declared.listing.Stop.{Stop}
use Rattle.journal_records.specs.declared.listing.ListError.{ListError}

-- 01's number for each case of an answer, and a value: nothing is refused where octets have to come, 0, where the room is used up,
-- 1, and at the end, 2
abbrev pub list_cause : Result Stop ListError → Cause
list_cause (Ok More) = row 0 (0 ∷ [])
list_cause (Ok Full) = row 0 (1 ∷ [])
list_cause (Ok End) = row 0 (2 ∷ [])
list_cause (Err BufferTooShort) = row cause.too_short []
list_cause (Err NotAJournal) = row cause.not_a_journal []
list_cause (Err UnknownVersion) = row cause.unknown_version []
list_cause (Err RecordInvalid) = row cause.record_invalid []

-- what a call does: why it stops, the octets that it deals with, the text that it writes, and what is to come then
pub record Piece : Type 0 where
  pub answer : Result Stop ListError
  pub phase : Phase
  pub consumed : ℕ
  pub text : List ℕ

-- nothing is done
abbrev pub stopped : Result Stop ListError → Phase → Piece
stopped a p = record { answer = a; phase = p; consumed = 0; text = [] }

-- the line with the refusal's number
abbrev pub refusal : ListError → Phase → Piece
refusal e p = record { answer = Err e; phase = p; consumed = 0; text = refused_line (list_cause (Err e)).number }

-- a line for n octets: records are to come
abbrev pub one_line : ℕ → List ℕ → Piece
one_line n text = record { answer = Ok More; phase = Records; consumed = n; text = text }

-- the line of the version's columns, or 18
abbrev pub headed : Version → Piece
headed (known l) = one_line 5 (header_line l)
headed other = refusal UnknownVersion Header

-- 17, then 18
unfoldable pub header_step : List ℕ → Piece
header_step s = need (leb 5 (length s) && marked s) (refusal NotAJournal Header) (headed (layout_of (le_at 2 3 s)))

-- 19, where the record is cut too
unfoldable pub record_step : List ℕ → Piece
record_step s = need (good_record version1 s) (refusal RecordInvalid Records) (one_line version1.size (record_line version1 s))

abbrev pub phase_step : Phase → List ℕ → Piece
phase_step Header s = header_step s
phase_step Records s = record_step s

-- the octets that a phase has to have before it goes on
abbrev pub needed : Phase → ℕ
needed Header = 5
needed Records = version1.size

-- more may come of octets that are too few, unless they are the last
unfoldable pub awaits : Phase → ℕ → Bool → Bool
awaits p n last = pick last false (ltb n (needed p))

-- a journal may end where a record would begin
unfoldable pub ended : Phase → ℕ → Bool
ended Header n = false
ended Records n = eqb n 0

-- octets have to come, or it is the end; else one line, of which 1 is said where there is no room for the longest
unfoldable pub step_of : Phase → List ℕ → Bool → ℕ → Piece
step_of p s last room =
    pick (awaits p (length s) last) (stopped (Ok More) p)
    (pick (ended p (length s)) (stopped (Ok End) p)
    (need (leb line_most room) (stopped (Err BufferTooShort) p) (phase_step p s)))

-- 1 is said of the room that a call is lent: once a line is listed, that room is used up
abbrev pub later : Result Stop ListError → Result Stop ListError
later (Ok s) = Ok s
later (Err BufferTooShort) = Ok Full
later (Err NotAJournal) = Err NotAJournal
later (Err UnknownVersion) = Err UnknownVersion
later (Err RecordInvalid) = Err RecordInvalid

-- an answer after which n octets are dealt with in all
unfoldable pub answer_after : ℕ → Result Stop ListError → Result Stop ListError
answer_after n a = pick (eqb n 0) a (later a)

-- what was done, in front of what is done next
abbrev pub ahead : ℕ → List ℕ → Piece → Piece
ahead consumed text p = record { answer = answer_after consumed p.answer; phase = p.phase; consumed = consumed + p.consumed; text = text ++ p.text }

-- a step, and what `more` does with the rest, unless the step consumed nothing
abbrev pub onward : Piece → (Phase → List ℕ → ℕ → Piece) → List ℕ → ℕ → Piece
onward p more s room =
    pick (eqb p.consumed 0) p
    (ahead p.consumed p.text (more p.phase (drop p.consumed s) (room - length p.text)))

-- at most n steps, up to one that consumes nothing
unfoldable pub steps_of : ℕ → Phase → List ℕ → Bool → ℕ → Piece
steps_of zero p s last room = stopped (Ok More) p
steps_of (suc n) p s last room = onward (step_of p s last room) (λ q t k. steps_of n q t last k) s room

-- no more steps than octets consume something
unfoldable pub part_of : Phase → List ℕ → Bool → ℕ → Piece
part_of p s last room = steps_of (suc (length s)) p s last room

-- the answer that tells of a piece
abbrev pub told : Piece → Part
told p = record { answer = p.answer; phase = p.phase; consumed = p.consumed; written = length p.text }

-- r tells of the piece, and its text is put to the front of `out`
pub record Prints (p : Piece) (r : Part) (out after : List ℕ) : Type 0 where
  pub answer : r ≡ told p
  pub holds : after ≡ sets out 0 p.text

-- r is what a call with the part s answers, with 01's number, and `after` what `out` then holds: the text, and behind it what it held before
pub record Lists (p : Phase) (s : List ℕ) (last : Bool) (r : Part) (out after : List ℕ) : Type 0 where
  pub answer : r ≡ told (part_of p s last (length out))
  pub cause : list_cause r.answer ≡ list_cause (part_of p s last (length out)).answer
  pub holds : after ≡ (part_of p s last (length out)).text ++ drop (length (part_of p s last (length out)).text) out

-- the text of octets from a phase on
abbrev pub text_from : Phase → List ℕ → List ℕ
text_from Header s = listing s
text_from Records s = lines version1 s

-- whether calls go on after an answer: with more octets, or with more room
abbrev pub goes_on : Result Stop ListError → Bool
goes_on (Ok More) = true
goes_on (Ok Full) = true
goes_on (Ok End) = false
goes_on (Err BufferTooShort) = true
goes_on (Err NotAJournal) = false
goes_on (Err UnknownVersion) = false
goes_on (Err RecordInvalid) = false

-- whether a line is to be written for which there is no room
abbrev pub crowded : Result Stop ListError → Bool
crowded (Ok More) = false
crowded (Ok Full) = true
crowded (Ok End) = false
crowded (Err BufferTooShort) = true
crowded (Err NotAJournal) = false
crowded (Err UnknownVersion) = false
crowded (Err RecordInvalid) = false

-- the text that is due after an answer: none after the end or a refusal
abbrev pub due_after : Result Stop ListError → Phase → List ℕ → List ℕ
due_after a p s = pick (goes_on a) (text_from p s) []
