-- `opening::close_well` meets its contract.
use Prim.Native.Nat.{◌≤◌, ◌-◌}
use Rattle.opening.proofs.Closing.{kept_is, lost_is}
use mathlib.Core.Path.{refl, ◌∙◌}
use native.Mathlib.Omega.{arith}
use Rattle.window.proofs.Laws.{from}
use Rattle.state.specs.Words.{left_len}
use Rattle.opening.proofs.close_well.Goals as goal

pub returns : goal.returns
returns c = let x = c.args.p.now in let s = x.state in
    let d = c.drain-left.ensures.value in
    let n = c.least-n.ensures in
    let h : left_len s ≤ s.cap = omega (arith, x.ready.sane.lives) in
    record { value = rw (c.idle.ensures, c.extend-kept.ensures.value, n, d, kept_is (left_len s) (s.chunk - s.part) s.cap h, lost_is (left_len s) (s.chunk - s.part) s.cap h); carry_after = c.extend-kept.ensures.carry_after ∙ rw (from x.chunk.now s.part, c.drain-left.ensures.carry_after, n, d); name = refl; chunk = refl; state = refl }
