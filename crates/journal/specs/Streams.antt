-- What the program has read and said, by the counts of `streams.rt`, which `read` and `say` alone raise.
-- Assumes nothing.
use Rattle.std.specs.Prelude.{ℕ, ◌+◌, ◌≤◌, min, Bool, true, false, ◌&&◌, ◌≡◌, leb, eqb, Result, Ok, Err, IsOk, IsErr}
use Rattle.journal.specs.declared.streams.Failed.{Failed}
use Rattle.journal.specs.declared.streams.Streams.{Streams}

-- nothing is read, nothing said, the input goes on, and nothing has failed
abbrev pub fresh : Streams
fresh = record { got = 0; said = 0; ended = false; failed = false }

-- n octets more are read; where they are none, the input is at its end
abbrev pub got_more : Streams → ℕ → Streams
got_more s n = record { got = s.got + n; said = s.said; ended = eqb n 0; failed = s.failed }

-- n octets more are said
abbrev pub said_more : Streams → ℕ → Streams
said_more s n = record { got = s.got; said = s.said + n; ended = s.ended; failed = s.failed }

-- a read or a write has failed: nothing more is read or said
abbrev pub failing : Streams → Streams
failing s = record { got = s.got; said = s.said; ended = s.ended; failed = true }

-- what the answer to a read into `most` octets means: how many it gave, or that it failed
abbrev pub AfterRead : {E : Type 0} → Streams → Streams → Result ℕ E → ℕ → Result ℕ Failed → Type 0
AfterRead before after (Ok n) most r = (r ≡ Ok (min n most)) × (after ≡ got_more before (min n most))
AfterRead before after (Err e) most r = IsErr r × (after ≡ failing before)

-- what it means that all n octets were written, or not
abbrev pub AfterWrite : Streams → Streams → Bool → ℕ → Result Unit Failed → Type 0
AfterWrite before after true n r = IsOk r × (after ≡ said_more before n)
AfterWrite before after false n r = IsErr r × (after ≡ failing before)

-- the input goes on, and nothing has failed
pub record Open (s : Streams) : Type 0 where
  pub goes : s.ended ≡ false
  pub good : s.failed ≡ false

-- a read has given n octets, of `most` at the most, or has failed
abbrev pub Reads : Streams → Streams → ℕ → Result ℕ Failed → Type 0
Reads before after most (Ok n) = (n ≤ most) × (after ≡ got_more before n)
Reads before after most (Err e) = after ≡ failing before

-- n octets are said, or writing them has failed
abbrev pub Tells : Streams → Streams → ℕ → Result Unit Failed → Type 0
Tells before after n (Ok u) = after ≡ said_more before n
Tells before after n (Err e) = after ≡ failing before

-- as many octets as a count may be before a turn
abbrev pub count_most : ℕ
count_most = 9223372036854775807

-- a turn's octets can be counted
abbrev pub has_room : Streams → Bool
has_room s = leb s.got count_most && leb s.said count_most

-- a number that a count can be
abbrev pub Counted : ℕ → Type 0
Counted n = n ≤ 18446744073709551615
