-- `orgnevis::orgnevis_open` meets its contract: done at once or in full, the answer is the same.
use Rattle.std.specs.Prelude.{Some}
use mathlib.Core.Path.{◌≡◌, sym, ap, ◌∙◌}
use Rattle.opening.specs.declared.Opened.{Opened}
use Rattle.words.specs.Plainly.{ReadsPlainly}
use Rattle.words.proofs.Kept.{open_keeps, opened_words_are}
use Rattle.orgnevis.specs.Calls.{opens}
use Rattle.quick_chunk.proofs.AtOnce.{opens_well}
use Rattle.orgnevis.proofs.orgnevis_open.Goals as goal
use Rattle.orgnevis.proofs.orgnevis_open.Goals.{then-opens+else-open_at_once, else-opens}

pub open_at_once-requires : goal.open_at_once-requires
open_at_once-requires c = c.opens.ensures c.if-opens.true

pub returns-then-open_at_once : goal.returns-then-open_at_once
unfolding opens
returns-then-open_at_once c = let x = c.args in
    let s = c.in-Some.s in
    let p : ReadsPlainly x.state.now (Some s) = rw c.in-Some.is at c.read_plain.ensures in
    let e = p.0 in
    let g = ap (λ (o : Opened). o.leave) (opens_well s x.carry.now x.chunk.now (c.opens.ensures c.if-opens.true)) in
    let k = open_keeps s x.carry.now x.chunk.now g in
    record { value = rw (e, g); state_after = c.open_at_once.ensures ∙ rw (c.if-open_at_once.true, e) (sym (opened_words_are x.state.now s e x.carry.now x.chunk.now _ k)) }

pub returns-after-opens : goal.returns-after-opens
returns-after-opens c = let x = c.args in
    let same : c.if-opens.state ≡ x.state.now = elim c.if-opens.branch [
      | then-opens+else-open_at_once w ↦ w.state-is ∙ w.open_at_once.ensures ∙ rw w.if-open_at_once.false
      | else-opens w ↦ w.state-is
    ] in
    rw (← same) c.full_open-in-Some.ensures
