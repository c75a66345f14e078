-- `taking::within` meets its contract.
use Prim.Native.Nat.{◌+◌, ◌≤◌, ◌<◌}
use native.Mathlib.Omega.{arith}
use borrow.Author.Tests.{lt-ltb, le-ltb}
use Rattle.window.specs.Pick.{pick}
use Rattle.taking.proofs.within.Goals as goal

pub returns-then-side_len-place : goal.returns-then-side_len-place
unfolding pick
returns-then-side_len-place c = let x = c.args in let h : x.side_len < x.place.start + x.place.len = omega arith in rw (lt-ltb _ _ h)

pub returns-then-side_len-place-2 : goal.returns-then-side_len-place-2
unfolding pick
returns-then-side_len-place-2 c = let x = c.args in let h : x.side_len < x.place.start + x.place.len = omega arith in rw (lt-ltb _ _ h)

pub returns : goal.returns
unfolding pick
returns c = let x = c.args in let h : x.place.start + x.place.len ≤ x.side_len = omega arith in rw (le-ltb _ _ h)
