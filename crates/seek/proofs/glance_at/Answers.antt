-- `seek::glance_at` meets its contract: what is told of a side from k on is told of the window from k on.
use native.Mathlib.Omega.{arith}
use Rattle.seek.proofs.OneSide.{side_long, told_from}
use Rattle.seek.proofs.glance_at.Goals as goal

pub glance-requires : goal.glance-requires
glance-requires c = let x = c.args in (omega arith, rw c.len.ensures (side_long x.window.carry.now x.window.chunk.now x.s.now x.k c.requires.side))

pub returns : goal.returns
returns c = let x = c.args in
    told_from x.mode x.max x.cap x.window.carry.now x.window.chunk.now x.s.now x.k c.requires.side (omega arith) c.glance.result (rw c.len.ensures at c.glance.ensures)
