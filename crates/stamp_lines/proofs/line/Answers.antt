-- `stamp_lines::line` meets its contract: the position, and behind it what the frame was read to.
use Rattle.text.proofs.Laws.{behind}
use Rattle.stamp_lines.proofs.line.Goals as goal

pub returns-in-Time : goal.returns-in-Time
returns-in-Time c = rw c.in-Time.is (behind c.here.ensures.adds c.said.ensures)
