-- `demo::script::Script::new` meets its contract: its world and its node are the first.
-- Assumes nothing.
use mathlib.Core.Path.{refl}
use Rattle.demo.proofs.script.Script.new.Goals as goal

pub returns : goal.returns
returns c = rw (c.new.ensures, c.new-2.ensures) refl
