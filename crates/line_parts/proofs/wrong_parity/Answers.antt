-- `line_parts::wrong_parity` meets its contract: the position, the parities and the line end.
use Rattle.text.proofs.Laws.{behind}
use Rattle.line_parts.proofs.wrong_parity.Goals as goal

pub returns : goal.returns
returns c = behind (behind c.here.ensures.adds c.compared.ensures.adds) c.text.ensures
