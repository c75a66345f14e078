-- `stamp_lines::totals` meets its contract: its pieces, one behind the other.
use Rattle.text.proofs.Laws.{behind}
use Rattle.stamp_lines.proofs.totals.Goals as goal

pub returns : goal.returns
returns c = behind (behind (behind c.tallies.ensures.adds c.labelled.ensures.adds) c.labelled-2.ensures.adds) c.sized.ensures
