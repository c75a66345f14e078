-- `window::past_16` meets its contract: each block that is passed begins at i or before it, and has none of what is looked for.
use mathlib.Core.Path.{◌≡◌, sym, ◌∙◌}
use Prim.Native.Nat.{◌+◌, ◌-◌, ◌≤◌}
use native.Mathlib.Omega.{arith}
use lib.ListN.{length}
use Rattle.window.specs.Search.{told}
use Rattle.window.proofs.Laws.{first_within}
use Rattle.window.proofs.past_16.Goals as goal

pub loop-i-preserved : goal.loop-i-preserved
loop-i-preserved c = let x = c.args in
    let p = c.loop-i.invariant in
    let i = c.loop-i.i in
    let j = c.min-j.result in
    let m = c.min-j.ensures in
    let n : j + 16 - j ≡ 16 = omega arith in
    let h : j + 16 ≤ length x.s.now = omega (arith, p.high) in
    record {
      low = omega (arith, p.low);
      high = h;
      same = omega (arith, p.same, first_within (told x.needle) x.s.now j i 16 (omega arith) (omega arith) h (rw n at (sym c.any.ensures ∙ c.if-any.false)));
    }
