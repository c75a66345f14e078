-- `taking::part_of` meets its contract: a place that is granted ends within its side.
use mathlib.Core.Path.{◌≡◌, sym, ◌∙◌}
use Prim.Native.Nat.{◌+◌, ◌-◌}
use native.Mathlib.Omega.{arith}
use lib.ListN.{length}
use Rattle.taking.proofs.Places.{view_ends}
use Rattle.taking.proofs.part_of.Goals as goal

pub overflow_add-end : goal.overflow_add-end
overflow_add-end c = let x = c.args in omega (arith, view_ends x.place (length x.side.now) (sym c.within.ensures ∙ c.in-Ok.is))

pub slice_bounds-result-end-in-Ok : goal.slice_bounds-result-end-in-Ok
slice_bounds-result-end-in-Ok c = let x = c.args in omega (arith, view_ends x.place (length x.side.now) (sym c.within.ensures ∙ c.in-Ok.is))

pub returns-in-Err : goal.returns-in-Err
returns-in-Err c = rw (sym c.within.ensures ∙ c.in-Err.is)

pub returns-in-Ok : goal.returns-in-Ok
returns-in-Ok c = let x = c.args in
    let n : x.place.start + x.place.len - x.place.start ≡ x.place.len = omega arith in
    rw (sym c.within.ensures ∙ c.in-Ok.is, n)
