-- `opening::close` meets its contract.
use Rattle.std.proofs.Common.{rules}
use mathlib.Core.Path.{refl, sym, ◌∙◌}
use Rattle.state.proofs.Granted.{use_granted}
use Rattle.opening.specs.Operations.{closing}
use Rattle.opening.proofs.close.Goals as goal

pub invariant_of-p : goal.invariant_of-p
invariant_of-p c = let x = c.args in
    record { ready = (use_granted x.s x.carry.now x.chunk.now (sym c.may_use.ensures ∙ c.in-Ok.is)).ready }

pub returns-in-Err : goal.returns-in-Err
unfolding closing
returns-in-Err c = rw (sym c.may_use.ensures ∙ c.in-Err.is) (record { refusal = refl; used = refl; kept = refl; lost = refl; state = refl; bytes = refl })

pub returns-in-Ok : goal.returns-in-Ok
unfolding closing
returns-in-Ok c = let r = c.close_well.ensures.value in
    rw (sym c.may_use.ensures ∙ c.in-Ok.is) (record { refusal = rw r; used = rw r; kept = rw r; lost = rw r; state = rw r; bytes = search rules })
