-- `orgnevis::full_step` meets its contract.
use mathlib.Core.Path.{sym, ◌∙◌}
use Rattle.framer.specs.Step.{step}
use Rattle.framer.proofs.Determined.{steps_is}
use Rattle.orgnevis.specs.Calls.{steps}
use Rattle.words.proofs.Kept.{step_stays, stepped_words_are}
use Rattle.orgnevis.proofs.full_step.Goals as goal

pub returns-in-None : goal.returns-in-None
unfolding steps
returns-in-None c = let e = sym c.read_state.ensures ∙ c.in-None.is in
    record { state_after = rw e; out_after = c.write_plain.ensures ∙ rw e; carry_after = rw e }

pub returns-in-Some : goal.returns-in-Some
unfolding steps
returns-in-Some c = let x = c.args in
    let e = sym c.read_state.ensures ∙ c.in-Some.is in
    let r = steps_is (step c.in-Some.s x.carry.now x.chunk.now) c.step-stepped.result _ c.step-stepped.ensures in
    record { state_after = c.write_stepped.ensures ∙ rw (e, r.0) (sym (stepped_words_are x.state.now _ e x.carry.now x.chunk.now _ (step_stays _ x.carry.now x.chunk.now))); out_after = c.write_answer.ensures ∙ rw (e, r.0); carry_after = r.1 ∙ rw e }
