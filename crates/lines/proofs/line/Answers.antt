-- `lines::line` meets its contract: the position, and behind it what the answer's case says.
use Rattle.lines.specs.Lines.{line}
use Rattle.text.proofs.Laws.{behind, nothing}
use Rattle.lines.proofs.line.Goals as goal

pub returns-in-UbxFrame : goal.returns-in-UbxFrame
unfolding line
returns-in-UbxFrame c = rw c.in-UbxFrame.is (behind c.here.ensures.adds (rw c.less.ensures at c.ubx.ensures))

pub returns-in-RtcmFrame : goal.returns-in-RtcmFrame
unfolding line
returns-in-RtcmFrame c = rw c.in-RtcmFrame.is (rw (c.less-n.ensures, c.around.ensures.value, c.has_parity.ensures) at c.placed.ensures)

pub returns-in-Sentence : goal.returns-in-Sentence
unfolding line
returns-in-Sentence c = rw c.in-Sentence.is c.placed-in-Sentence.ensures

pub returns-in-WrongSum : goal.returns-in-WrongSum
unfolding line
returns-in-WrongSum c = rw c.in-WrongSum.is (behind c.here-in-WrongSum.ensures.adds c.wrong.ensures)

pub returns-in-NoRoom : goal.returns-in-NoRoom
unfolding line
returns-in-NoRoom c = rw c.in-NoRoom.is c.placed-in-NoRoom.ensures

pub returns-in-NeedMore : goal.returns-in-NeedMore
unfolding line
returns-in-NeedMore c = rw c.in-NeedMore.is (nothing c.args.lines.now)

pub returns-in-Refused : goal.returns-in-Refused
unfolding line
returns-in-Refused c = rw c.in-Refused.is (nothing c.args.lines.now)

pub returns-in-WrongParity : goal.returns-in-WrongParity
unfolding line
returns-in-WrongParity c = rw c.in-WrongParity.is c.wrong_parity.ensures
