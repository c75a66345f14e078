-- `orgnevis::orgnevis_close` meets its contract: done at once or in full, the answer is the same.
use Rattle.std.specs.Prelude.{Some}
use mathlib.Core.Path.{sym, ap, ◌∙◌}
use Rattle.opening.specs.Operations.{CloseOut}
use Rattle.words.specs.Plainly.{ReadsPlainly}
use Rattle.words.proofs.Kept.{close_keeps, closed_words_are}
use Rattle.orgnevis.specs.Calls.{closes}
use Rattle.quick_chunk.proofs.AtOnce.{closes_well}
use Rattle.orgnevis.proofs.orgnevis_close.Goals as goal

pub close_at_once-requires : goal.close_at_once-requires
close_at_once-requires c = c.is_usable.ensures c.if-is_usable.true

pub returns-then-is_usable : goal.returns-then-is_usable
unfolding closes
returns-then-is_usable c = let x = c.args in
    let s = c.in-Some.open in
    let p : ReadsPlainly x.state.now (Some s) = rw c.in-Some.is at c.read_plain.ensures in
    let e = p.0 in
    let g = ap (λ (o : CloseOut). o.result.leave) (closes_well s x.carry.now x.chunk.now (c.is_usable.ensures c.if-is_usable.true)) in
    let k = close_keeps s x.carry.now x.chunk.now g in
    let r = c.close_at_once.ensures in
    record { state_after = r.state_after ∙ rw (e, k) (sym (closed_words_are x.state.now s e _)); out_after = r.out_after ∙ rw e; carry_after = r.carry_after ∙ rw e }
