-- `text::Lines::labelled` meets its contract: the label, and the digits behind it.
use Rattle.text.proofs.Laws.{behind}
use Rattle.text.proofs.lines.Lines.labelled.Goals as goal

pub returns-clause-adds : goal.returns-clause-adds
returns-clause-adds c = behind c.text.ensures c.decimal.ensures.adds
