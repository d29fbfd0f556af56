-- `demo::world::World::new` meets its contract: its line is the empty one.
-- Assumes nothing.
use mathlib.Core.Path.{refl}
use Rattle.demo.proofs.world.World.new.Goals as goal

pub returns : goal.returns
returns c = rw c.new.ensures refl
