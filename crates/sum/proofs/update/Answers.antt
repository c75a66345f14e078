-- `sum::update` meets its contract: what is left to sum, run on from the sums so far, is the whole.
use Rattle.std.proofs.Common.{take, drop, take-append-drop}
use Rattle.sum.proofs.Laws.{sum_append}
use Rattle.sum.proofs.update.Goals as goal

pub loop-block-preserved : goal.loop-block-preserved
loop-block-preserved c = let rest = c.loop-block.rest.now in
    rw (c.run_over-sums.ensures, c.in-Some.ensures.cases.0, c.in-Some.ensures.cases.1, ← sum_append c.loop-block.sums (take 32 rest) (drop 32 rest), take-append-drop 32 rest) c.loop-block.invariant
