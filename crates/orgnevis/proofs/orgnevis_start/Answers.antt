-- `orgnevis::orgnevis_start` meets its contract.
use mathlib.Core.Path.{sym, ◌∙◌}
use lib.ListN.{length}
use Rattle.opening.specs.Operations.{start}
use Rattle.opening.proofs.Determined.{opens_is}
use Rattle.orgnevis.specs.Calls.{starts}
use Rattle.orgnevis.proofs.orgnevis_start.Goals as goal

pub returns-in_default : goal.returns-in_default
unfolding starts
returns-in_default c = let e = sym c.read_mode.ensures ∙ c.in_default.is in
    record { value = rw e; state_after = rw e }

pub returns : goal.returns
unfolding starts
returns c = let x = c.args in
    let m = c.in-Some.mode in
    let e = sym c.read_mode.ensures ∙ c.in-Some.is in
    let r = opens_is (start m x.max (length x.carry.now)) c.start-started.result c.start-started.ensures in
    record { value = c.leave_no.ensures ∙ rw (e, r); state_after = c.write_state.ensures ∙ rw (e, r) }
