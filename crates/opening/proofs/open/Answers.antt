-- `opening::open` meets its contract.
use mathlib.Core.Path.{refl, sym, ◌∙◌}
use Rattle.state.proofs.Granted.{open_granted}
use Rattle.opening.specs.Operations.{opening}
use Rattle.opening.proofs.Ready.{noted_ready}
use Rattle.opening.proofs.open.Goals as goal

pub open_well-requires : goal.open_well-requires
open_well-requires c = let x = c.args in
    (noted_ready x.s x.carry.now x.chunk.now (open_granted x.s x.carry.now x.chunk.now (sym c.may_open.ensures ∙ c.in-Ok.is))).1

pub returns-in-Err : goal.returns-in-Err
unfolding opening
returns-in-Err c = rw (sym c.may_open.ensures ∙ c.in-Err.is) (record { refusal = refl; state = refl })

pub returns-in-Ok : goal.returns-in-Ok
unfolding opening
returns-in-Ok c = rw (sym c.may_open.ensures ∙ c.in-Ok.is) (record { refusal = refl; state = c.open_well.ensures })
