-- `teller::answers` meets its contract: the lines of one filled buffer join those before it.
use Rattle.teller.proofs.Whole.{left, Flowing}
use Rattle.teller.proofs.answers.Given as goal

abbrev pub invariant-loop-run : goal.invariant-loop-run
invariant-loop-run g l = Flowing g.T.Teller.words l.initial.run l.initial.carry l.chunk l.initial.lines l.run l.carry l.lines

abbrev pub decreases-loop-run : goal.decreases-loop-run
decreases-loop-run g l = left l.run l.lines
