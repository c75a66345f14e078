-- `words::write_hand` meets its contract.
use mathlib.Core.Path.{◌∙◌}
use Rattle.words.proofs.write_hand.Goals as goal

pub returns-in-Ubx : goal.returns-in-Ubx
returns-in-Ubx c = c.write_frame.ensures ∙ rw (c.in-Ubx.is, c.from.ensures, c.from-in-Ubx.ensures)

pub returns-in-Rtcm : goal.returns-in-Rtcm
returns-in-Rtcm c = c.write_frame-in-Rtcm.ensures ∙ rw c.in-Rtcm.is

pub returns-in-Sentence : goal.returns-in-Sentence
returns-in-Sentence c = c.write_frame-in-Sentence.ensures ∙ rw c.in-Sentence.is
