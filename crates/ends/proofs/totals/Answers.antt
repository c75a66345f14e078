-- `ends::totals` meets its contract: its pieces, one behind the other.
use Rattle.text.proofs.Laws.{behind}
use Rattle.ends.proofs.totals.Goals as goal

pub returns : goal.returns
returns c = behind (behind c.labelled.ensures.adds c.labelled-2.ensures.adds) c.sized.ensures
