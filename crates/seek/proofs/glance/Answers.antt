-- `seek::glance` meets its contract: the rule that the front byte calls for.
use mathlib.Core.Path.{sym, ◌∙◌}
use Prim.Native.Nat.{◌<◌}
use native.Mathlib.Omega.{arith}
use lib.ListN.{length}
use Rattle.look.proofs.Rules.{look_noise}
use Rattle.seek.proofs.OneSide.{begins_long, begins_at, ruled_ubx, ruled_rtcm}
use Rattle.seek.proofs.glance.Goals as goal

pub returns-then-not-is_sync : goal.returns-then-not-is_sync
returns-then-not-is_sync c = λ u W h beside. let x = c.args in
    let n : 0 < length W = omega (arith, begins_long x.s.now W u x.w h) in
    look_noise x.mode x.max x.cap u W _ (begins_at x.s.now W u x.w h 0 (omega arith)) n (sym c.is_sync.ensures ∙ c.if-not-is_sync.true)

pub returns-then-x : goal.returns-then-x
returns-then-x c = λ u W h beside. let x = c.args in
    rw (ruled_ubx x.s.now W u x.w h x.mode x.max x.cap (omega arith) (sym c.is_sync.ensures ∙ c.if-not-is_sync.false) c.if-x.true)
    (c.glance_ubx.ensures u W h beside)

pub returns-then-x-2 : goal.returns-then-x-2
returns-then-x-2 c = λ u W h beside. let x = c.args in
    rw (ruled_rtcm x.s.now W u x.w h x.mode x.max x.cap (omega arith) (sym c.is_sync.ensures ∙ c.if-not-is_sync.false) c.if-x.false c.if-x-2.true, ← c.has_parity.ensures)
    (c.glance_rtcm.ensures u W h)
