-- `text::Lines::sized` meets its contract: the label and the number, and the line end behind them.
use Rattle.text.proofs.Laws.{behind}
use Rattle.text.proofs.lines.Lines.sized.Goals as goal

pub returns : goal.returns
returns c = behind c.labelled.ensures.adds c.text.ensures
