-- `teller::answers` meets its contract: the lines of one filled buffer join those before it.
use Rattle.std.proofs.Common.{arith}
use Rattle.teller.proofs.Whole.{flowing_starts, flowing_on, flowing_ends, flowing_less}
use Rattle.teller.proofs.answers.Goals as goal

pub loop-run-init : goal.loop-run-init
loop-run-init g c = let x = c.args in flowing_starts x.run.now x.carry.now x.chunk.now x.lines.now

pub loop-run-smaller : goal.loop-run-smaller
loop-run-smaller g c =
    let i = c.loop-run.invariant in
    flowing_less i c.fill.ensures c.loop-run-test.true c.flush.ensures.run c.flush.ensures.lines g.met.T.Teller.gets_on (omega (arith, i.buffer.size, c.requires))

pub loop-run-preserved : goal.loop-run-preserved
loop-run-preserved g c = flowing_on c.loop-run.invariant c.fill.ensures c.loop-run-test.true c.flush.ensures.run c.flush.ensures.lines

pub returns : goal.returns
returns g c = flowing_ends c.loop-run.invariant c.fill.ensures c.loop-run-test.false
