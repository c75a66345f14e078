-- `teller::fill` meets its contract: after each turn the lines so far stand behind those that waited. Each turn uses up a byte or more.
use Rattle.std.proofs.Common.{arith}
use Rattle.teller.proofs.Going.{going_starts, going_full, going_on, going_ends, going_uses}
use Rattle.teller.proofs.fill.Goals as goal

pub loop-lines-init : goal.loop-lines-init
loop-lines-init g c = let x = c.args in going_starts x.run.now x.carry.now x.chunk.now x.lines.now

pub loop-lines-smaller : goal.loop-lines-smaller
loop-lines-smaller g c =
    let u = going_uses c.loop-lines.invariant g.met.T.Teller.gets_on c.one.ensures c.if-not-one.false in
    omega (arith, u.more, u.within)

pub loop-lines-preserved : goal.loop-lines-preserved
loop-lines-preserved g c = going_on c.loop-lines.invariant g.met.T.Teller.gets_on c.one.ensures c.if-not-one.false

pub returns : goal.returns
returns g c = going_full c.loop-lines.invariant (omega arith)

pub returns-then-not-one : goal.returns-then-not-one
returns-then-not-one g c = going_ends c.loop-lines.invariant g.met.T.Teller.gets_on c.one.ensures c.if-not-one.true
