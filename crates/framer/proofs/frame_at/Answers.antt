-- `framer::frame_at` meets its contract.
use Rattle.framer.proofs.frame_at.Goals as goal

pub returns-in-Ubx : goal.returns-in-Ubx
returns-in-Ubx c = rw c.in-Ubx.is

pub returns-in-Rtcm : goal.returns-in-Rtcm
returns-in-Rtcm c = rw c.in-Rtcm.is

pub returns-in-Sentence : goal.returns-in-Sentence
returns-in-Sentence c = rw c.in-Sentence.is
