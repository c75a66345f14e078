-- `sum::update` meets its contract: what is left to sum, run on from the sums so far, is the whole.
use Rattle.std.proofs.Common.{◌≡◌, length}
use Rattle.sum.specs.Sum.{sum_on}
use Rattle.sum.proofs.update.Given as goal

abbrev pub invariant-loop-block : goal.invariant-loop-block
invariant-loop-block l = sum_on l.sums l.rest ≡ sum_on l.initial.sums l.bytes

abbrev pub decreases-loop-block : goal.decreases-loop-block
decreases-loop-block l = length l.rest
