-- What the streams tell of themselves.
-- Assumes nothing.
use Prim.Native.Nat.{◌≤◌}
use mathlib.Core.Bool.{true}
use mathlib.Core.Path.{◌≡◌}
use lib.Dec.{leb}
use borrow.Author.Tests.{leb-true}
use Rattle.std.proofs.lemmas.Bool.{and_parts}
use Rattle.journal.specs.Streams.{count_most, has_room}
use Rattle.journal.specs.declared.streams.Streams.{Streams}

module _ (s : Streams) where
  module _ (e : has_room s ≡ true) where
    pub room_got : s.got ≤ count_most
    room_got = leb-true s.got count_most (and_parts (leb s.got count_most) (leb s.said count_most) e).0

    pub room_said : s.said ≤ count_most
    room_said = leb-true s.said count_most (and_parts (leb s.got count_most) (leb s.said count_most) e).1
