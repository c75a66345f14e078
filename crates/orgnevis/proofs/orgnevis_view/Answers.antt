-- `orgnevis::orgnevis_view` meets its contract.
use Rattle.std.proofs.Common.{◌∙◌, rules}
use Rattle.window.specs.Pick.{pick}
use Rattle.orgnevis.specs.Calls.{views}
use Rattle.orgnevis.proofs.orgnevis_view.Goals as goal
use Rattle.orgnevis.proofs.orgnevis_view.Goals.{in-0, in-1}

pub returns-in_default : goal.returns-in_default
unfolding views pick
returns-in_default c = search rules

pub returns : goal.returns
unfolding views pick
returns c = c.leave_no.ensures ∙ rw (c.may_view.ensures, c.place_on.ensures) (elim c.match-side.branch [
  | in-0 w ↦ rw (w.side-is, w.in-0.is)
  | in-1 w ↦ rw (w.side-is, w.in-1.is)
])
