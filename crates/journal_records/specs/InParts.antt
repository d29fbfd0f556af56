-- Calls one after the other print the listing, however the journal is cut into parts.
-- Assumes nothing.
use Rattle.std.specs.Prelude.{ℕ, ◌+◌, ◌≤◌, ◌<◌, Bool, true, false, ◌≡◌, List, [], ◌++◌, length, take, drop, Ok, Err}
use Rattle.journal_records.specs.Listing.{line_most, refused_line, listing}
use Rattle.journal_records.specs.Parts.{Lists, list_cause, text_from, needed, goes_on, due_after}
use Rattle.journal_records.specs.declared.listing.ListError.TheVariants.{BufferTooShort}
use Rattle.journal_records.specs.declared.listing.Stop.TheVariants.{More, Full, End}
use Rattle.journal_records.specs.declared.listing.Part.{Part}
use Rattle.journal_records.specs.declared.listing.Phase.{Phase}
use Rattle.journal_records.specs.declared.listing.Phase.TheVariants.{Header}

-- Calls of `list_part` until one answers the end or a refusal. The octets that are not yet consumed are s ++ rest at each: s is
-- lent, of any length, and rest is what the input still holds, nothing where `last` says so. Each call is lent `room` octets or
-- more for its text. The last list is what the calls print in all.
pub data Run (room : ℕ) : Phase → List ℕ → List ℕ → Type 0 where
  over : {p : Phase} {s rest : List ℕ} {last : Bool} {r : Part} {out after : List ℕ} → Lists p s last r out after
      → room ≤ length out → (last ≡ true → rest ≡ []) → goes_on r.answer ≡ false
      → Run room p (s ++ rest) (take r.written after)
  call : {p : Phase} {s rest : List ℕ} {last : Bool} {r : Part} {out after text : List ℕ} → Lists p s last r out after
      → room ≤ length out → (last ≡ true → rest ≡ []) → goes_on r.answer ≡ true
      → Run room r.phase (drop r.consumed s ++ rest) text
      → Run room p (s ++ rest) (take r.written after ++ text)

-- a text whose last line is this one
pub record EndsIn (line text : List ℕ) : Type 0 where
  pub front : List ℕ
  pub joins : text ≡ front ++ line

pub record ListsInParts : Type 0 where
  -- one call prints the start of the text that is due, and leaves the rest due: none, after the end or a refusal
  pub text : {p : Phase} {s : List ℕ} {last : Bool} {r : Part} {out after : List ℕ} → Lists p s last r out after → (rest : List ℕ)
      → (last ≡ true → rest ≡ [])
      → text_from p (s ++ rest) ≡ take r.written after ++ due_after r.answer r.phase (drop r.consumed s ++ rest)
  -- and stays within what it was lent
  pub within : {p : Phase} {s : List ℕ} {last : Bool} {r : Part} {out after : List ℕ} → Lists p s last r out after
      → (r.consumed ≤ length s) × (r.written ≤ length out) × (length after ≡ length out)
  -- octets have to come only where they may, and fewer are left than a record has, or mark and version
  pub more : {p : Phase} {s : List ℕ} {last : Bool} {r : Part} {out after : List ℕ} → Lists p s last r out after → r.answer ≡ Ok More
      → (last ≡ false) × (length s < r.consumed + needed r.phase)
  -- the room is used up only after something was listed, and where less is left than the longest line has
  pub full : {p : Phase} {s : List ℕ} {last : Bool} {r : Part} {out after : List ℕ} → Lists p s last r out after → r.answer ≡ Ok Full
      → (0 < r.consumed) × (length out < r.written + line_most)
  -- 1 is answered only where less is lent, and leaves all as it was
  pub short : {p : Phase} {s : List ℕ} {last : Bool} {r : Part} {out after : List ℕ} → Lists p s last r out after → r.answer ≡ Err BufferTooShort
      → (length out < line_most) × ((r.consumed ≡ 0) × ((r.phase ≡ p) × (after ≡ out)))
  -- the end is answered where the last octets are dealt with
  pub end : {p : Phase} {s : List ℕ} {last : Bool} {r : Part} {out after : List ℕ} → Lists p s last r out after → r.answer ≡ Ok End
      → (last ≡ true) × (r.consumed ≡ length s)
  -- where 17, 18 or 19 is answered, the line that says so is the last that was written
  pub refused : {p : Phase} {s : List ℕ} {last : Bool} {r : Part} {out after : List ℕ} → Lists p s last r out after → 17 ≤ (list_cause r.answer).number
      → EndsIn (refused_line (list_cause r.answer).number) (take r.written after)
  -- whatever room the calls have, what they print in all is the listing
  pub listed : {room : ℕ} {input text : List ℕ} → Run room Header input text → text ≡ listing input
  -- and there is such a run wherever each call has room for a line: from any phase and any octets left, calls go on to the end
  pub ends : (room : ℕ) → line_most ≤ room → (p : Phase) (left : List ℕ) → Run room p left (text_from p left)
