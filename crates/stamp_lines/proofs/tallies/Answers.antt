-- `stamp_lines::tallies` meets its contract: its pieces, one behind the other.
use Rattle.text.proofs.Laws.{behind}
use Rattle.stamp_lines.proofs.tallies.Goals as goal

pub returns-clause-adds : goal.returns-clause-adds
returns-clause-adds c =
    behind (behind (behind (behind c.labelled.ensures.adds c.labelled-2.ensures.adds) c.labelled-3.ensures.adds) c.labelled-4.ensures.adds) c.labelled-5.ensures.adds
