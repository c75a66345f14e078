-- `taking::view` meets its contract: the side decides which part it is.
use mathlib.Core.Path.{◌∙◌}
use Rattle.taking.specs.View.{view}
use Rattle.taking.proofs.view.Goals as goal

pub returns-in-Carry : goal.returns-in-Carry
unfolding view
returns-in-Carry c = c.part_of.ensures ∙ rw c.in-Carry.is

pub returns-in-Chunk : goal.returns-in-Chunk
unfolding view
returns-in-Chunk c = c.part_of-in-Chunk.ensures ∙ rw c.in-Chunk.is
