-- `line_parts::placed` meets its contract: the position, and the label and the number behind it.
use Rattle.text.proofs.Laws.{behind}
use Rattle.line_parts.proofs.placed.Goals as goal

pub returns : goal.returns
returns c = behind c.here.ensures.adds c.sized.ensures
