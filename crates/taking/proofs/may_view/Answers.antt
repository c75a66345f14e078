-- `taking::may_view` meets its contract: the side decides which length counts.
use mathlib.Core.Path.{◌∙◌}
use Rattle.taking.proofs.may_view.Goals as goal

pub returns-in-Carry : goal.returns-in-Carry
returns-in-Carry c = c.within.ensures ∙ rw c.in-Carry.is

pub returns-in-Chunk : goal.returns-in-Chunk
returns-in-Chunk c = c.within-in-Chunk.ensures ∙ rw c.in-Chunk.is
