-- `framer::step` meets its contract.
use Rattle.std.proofs.Common.{rules}
use mathlib.Core.Path.{refl, sym, ◌∙◌}
use Rattle.state.proofs.Granted.{use_granted}
use Rattle.framer.specs.Step.{step}
use Rattle.framer.proofs.step.Goals as goal

pub invariant_of-p : goal.invariant_of-p
invariant_of-p c = let x = c.args in
    record { ready = (use_granted x.s x.carry.now x.chunk.now (sym c.may_use.ensures ∙ c.in-Ok.is)).ready }

pub returns-in-Err : goal.returns-in-Err
unfolding step
returns-in-Err c = rw (sym c.may_use.ensures ∙ c.in-Err.is) (record { number = refl; values = refl; state = refl; bytes = refl })

pub returns-in-Ok : goal.returns-in-Ok
unfolding step
returns-in-Ok c = let r = c.step_well-answer.ensures in
    rw (sym c.may_use.ensures ∙ c.in-Ok.is) (record { number = rw r.value; values = rw r.value; state = r.state; bytes = search rules })
