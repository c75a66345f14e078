-- `quick_chunk::close_at_once` meets its contract.
use mathlib.Core.Path.{◌≡◌, ◌∙◌}
use Rattle.state.proofs.Granted.{use_granted}
use Rattle.quick_chunk.proofs.AtOnce.{closes_well}
use borrow.Author.Rules.{rules}
use Rattle.quick_chunk.proofs.close_at_once.Goals as goal

pub invariant_of-p : goal.invariant_of-p
invariant_of-p c = let x = c.args in record { ready = (use_granted x.s x.carry.now x.chunk.now c.requires).ready }

pub returns : goal.returns
returns c = let x = c.args in
    let g = closes_well x.s x.carry.now x.chunk.now c.requires in
    let r = c.close_well-report.ensures in
    let same : _ ≡ c.close_well-report.new.p.carry.now = search rules in
    record { state_after = c.write_closed.ensures ∙ rw (g, r.value); out_after = c.write_report.ensures ∙ rw (g, r.value); carry_after = same ∙ r.carry_after ∙ rw g }
