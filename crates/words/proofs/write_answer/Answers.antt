-- `words::write_answer` meets its contract.
use mathlib.Core.Path.{◌∙◌}
use Rattle.words.proofs.write_answer.Goals as goal

pub returns-in-UbxFrame : goal.returns-in-UbxFrame
returns-in-UbxFrame c = c.write_frame.ensures ∙ rw (c.in-UbxFrame.is, c.from.ensures, c.from-in-UbxFrame.ensures)

pub returns-in-RtcmFrame : goal.returns-in-RtcmFrame
returns-in-RtcmFrame c = c.write_frame-in-RtcmFrame.ensures ∙ rw c.in-RtcmFrame.is

pub returns-in-Sentence : goal.returns-in-Sentence
returns-in-Sentence c = c.write_frame-in-Sentence.ensures ∙ rw c.in-Sentence.is

pub returns-in-WrongSum : goal.returns-in-WrongSum
returns-in-WrongSum c = c.write_wrong.ensures ∙ rw c.in-WrongSum.is

pub returns-in-NoRoom : goal.returns-in-NoRoom
returns-in-NoRoom c = c.write_plain.ensures ∙ rw c.in-NoRoom.is

pub returns-in-NeedMore : goal.returns-in-NeedMore
returns-in-NeedMore c = c.write_plain-in-NeedMore.ensures ∙ rw c.in-NeedMore.is

pub returns-in-Refused : goal.returns-in-Refused
returns-in-Refused c = c.write_plain-in-Refused.ensures ∙ rw (c.in-Refused.is, c.into.ensures)

pub returns-in-WrongParity : goal.returns-in-WrongParity
returns-in-WrongParity c = c.write_plain-in-WrongParity.ensures ∙ rw (c.in-WrongParity.is, c.from-in-WrongParity.ensures, c.from-in-WrongParity-2.ensures)
