-- `state::drained` meets its contract.
use mathlib.Core.Path.{◌≡◌}
use Prim.Native.Nat.{◌+◌, ◌-◌, min}
use native.Mathlib.Omega.{arith}
use Rattle.state.proofs.drained.Goals as goal

pub returns-then-k-left : goal.returns-then-k-left
returns-then-k-left c = let x = c.args in
    let s = x.s in
    let a : s.off + min (s.live - s.off) x.k ≡ s.off + x.k = omega arith in
    let b : s.part + (x.k - (s.live - s.off)) ≡ s.part = omega arith in
    rw (a, b)

pub returns : goal.returns
returns c = let x = c.args in
    let s = x.s in
    let a : s.off + min (s.live - s.off) x.k ≡ s.live = omega arith in
    rw a
