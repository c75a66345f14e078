-- `line_parts::ubx` meets its contract: its pieces, one behind the other.
use Rattle.text.proofs.Laws.{behind}
use Rattle.line_parts.proofs.ubx.Goals as goal

pub returns : goal.returns
returns c = behind (behind (behind (behind c.text.ensures c.hex.ensures.adds) c.text-2.ensures) c.hex-2.ensures.adds) c.sized.ensures
