-- `orgnevis::orgnevis_step` meets its contract: done at once or in full, the answer is the same.
use Rattle.std.specs.Prelude.{Some}
use Rattle.std.proofs.Common.{rules}
use mathlib.Core.Path.{◌≡◌, sym, ◌∙◌}
use mathlib.Core.Bool.{true, false}
use Rattle.state.proofs.Granted.{use_granted}
use Rattle.words.specs.Plainly.{ReadsPlainly}
use Rattle.words.proofs.Kept.{step_stays, stepped_words_are}
use Rattle.orgnevis.specs.Calls.{steps}
use Rattle.quick_chunk.proofs.AtOnce.{steps_well}
use Rattle.orgnevis.proofs.orgnevis_step.Goals as goal

pub invariant_of-p : goal.invariant_of-p
invariant_of-p c = let x = c.args in let s = c.in-Some.s in
    record { ready = (use_granted s x.carry.now x.chunk.now (c.is_usable.ensures c.if-is_usable.true)).ready }

pub step_at_once-requires : goal.step_at_once-requires
step_at_once-requires c = let x = c.args in let s = c.in-Some.s in
    let p : ReadsPlainly x.state.now (Some s) = rw c.in-Some.is at c.read_plain.ensures in
    record { mode_value = p.1 }

pub returns-then-step_at_once : goal.returns-then-step_at_once
unfolding steps
returns-then-step_at_once c = let x = c.args in let s = c.in-Some.s in
    let p : ReadsPlainly x.state.now (Some s) = rw c.in-Some.is at c.read_plain.ensures in
    let e = p.0 in
    let o = steps_well s x.carry.now x.chunk.now (c.is_usable.ensures c.if-is_usable.true) in
    let at_once = c.step_at_once in
    let done : at_once.result ≡ true = c.if-step_at_once.true in
    let l = rw (← o) at (rw done at at_once.ensures.quickly) in
    let stays = step_stays s x.carry.now x.chunk.now in
    let same : _ ≡ at_once.new.p.carry.now = search rules in
    record { state_after = l.stepped ∙ rw e (sym (stepped_words_are x.state.now s e x.carry.now x.chunk.now _ stays)); out_after = l.told ∙ rw e; carry_after = same ∙ l.kept ∙ rw e }

pub returns-else-step_at_once : goal.returns-else-step_at_once
returns-else-step_at_once c = let at_once = c.step_at_once in
    let undone : at_once.result ≡ false = c.if-step_at_once.false in
    let u = rw undone at at_once.ensures.quickly in
    let f = c.full_step-then-is_usable.ensures in let w = u.0 in let k = u.1 in
    let same : c.carry-then-is_usable-1.given.0 ≡ c.args.carry.now = search rules in
    rw (w, same) at f
