-- `carry::put_block` meets its contract: after j turns the first j bytes of the block have been written.
use mathlib.Core.Path.{◌≡◌}
use lib.Seq.{paste}
use Rattle.carry.proofs.put_block.Given as goal

abbrev pub invariant-loop-j : goal.invariant-loop-j
invariant-loop-j l = l.carry ≡ paste l.initial.carry l.at l.fn.block l.j
