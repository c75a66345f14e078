-- `stamp::step` meets its contract: the framer's step is its definition, and its answer is told.
use Rattle.framer.specs.Step.{step as frameStep}
use Rattle.framer.proofs.Determined.{steps_is}
use Rattle.stamp.specs.Step.{step}
use Rattle.stamp.proofs.Determined.{is_times}
use Rattle.stamp.proofs.step.Goals as goal

pub returns : goal.returns
unfolding step
returns c = let x = c.args in
    let s = c.step-stepped in
    let o = frameStep x.s x.carry.now x.chunk.now in
    let e = steps_is o s.result s.new.carry s.ensures in
    is_times (step x.clock x.s x.carry.now x.chunk.now) _ _ (rw (c.tell-news.ensures, e.0, e.1)) e.1
