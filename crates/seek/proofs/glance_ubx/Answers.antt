-- `seek::glance_ubx` meets its contract: what the head tells.
use Rattle.seek.proofs.glance_ubx.Goals as goal

pub returns-in-Ok : goal.returns-in-Ok
returns-in-Ok c = let x = c.args in let k = rw c.in-Ok.is at c.ubx_head.ensures in λ u W h beside. rw (k.2 x.cap u x.w W h) (c.glance_frame.ensures u W h beside)
