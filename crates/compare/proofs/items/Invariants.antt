-- `compare::items` meets its contract. The invariant: the lists begin alike, and the iterator has what is left of each.
use Rattle.compare.proofs.Laws.{Alike}
use Rattle.compare.proofs.items.Given as goal

abbrev pub invariant-loop-at : goal.invariant-loop-at
invariant-loop-at g l = Alike l.got l.recorded l.at-iterator.iter.a.rest.now l.at-iterator.iter.b.rest.now
