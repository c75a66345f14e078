-- `teller::fill` meets its contract: after each turn the lines so far stand behind those that waited. Each turn uses up a byte or more.
use Rattle.std.proofs.Common.{◌-◌}
use Rattle.teller.proofs.Going.{Going}
use Rattle.teller.proofs.fill.Given as goal

abbrev pub invariant-loop-lines : goal.invariant-loop-lines
invariant-loop-lines g l = Going g.T.Teller.words l.initial.run l.initial.carry l.chunk l.initial.lines l.run l.carry l.lines

abbrev pub decreases-loop-lines : goal.decreases-loop-lines
decreases-loop-lines g l = 32768 - l.run.state.used
