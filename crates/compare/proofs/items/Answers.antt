-- `compare::items` meets its contract. The invariant: the lists begin alike, and the iterator has what is left of each.
use Rattle.std.proofs.Common.{rules}
use borrow.Author.Tests.{tests}
use Rattle.compare.proofs.Laws.{alike_more}
use Rattle.compare.proofs.items.Goals as goal

pub loop-at-preserved : goal.loop-at-preserved
loop-at-preserved g c =
    let steps = c.in-Some.ensures.steps in
    alike_more _ _ (rw (steps.0.0, steps.0.1) at c.loop-at.invariant) (c.requires.same _ _ (search (rules, tests)))
