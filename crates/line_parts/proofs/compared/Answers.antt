-- `line_parts::compared` meets its contract: its pieces, one behind the other.
use Rattle.text.proofs.Laws.{behind}
use Rattle.line_parts.proofs.compared.Goals as goal

pub returns-clause-adds : goal.returns-clause-adds
returns-clause-adds c = behind (behind (behind c.text.ensures c.hex.ensures.adds) c.text-2.ensures) c.hex-2.ensures.adds
