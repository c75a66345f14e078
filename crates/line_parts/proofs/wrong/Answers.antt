-- `line_parts::wrong` meets its contract: the sums, and behind them the frame or the line end.
use Rattle.text.proofs.Laws.{behind}
use Rattle.line_parts.proofs.wrong.Goals as goal

pub returns-then-named : goal.returns-then-named
returns-then-named c = rw c.if-named.true (behind c.compared.ensures.adds c.ubx.ensures)

pub returns-else-named : goal.returns-else-named
returns-else-named c = rw c.if-named.false (behind c.compared.ensures.adds c.text.ensures)
