-- `orgnevis::full_open` meets its contract.
use mathlib.Core.Path.{sym, ap, ◌∙◌}
use Rattle.opening.specs.declared.Opened.{Opened}
use Rattle.opening.specs.Operations.{opening}
use Rattle.opening.proofs.Determined.{opens_is}
use Rattle.orgnevis.specs.Calls.{opens}
use Rattle.words.proofs.Kept.{open_keeps, open_refused, same, opened_words_are}
use Rattle.orgnevis.proofs.full_open.Goals as goal

pub returns-in_default : goal.returns-in_default
unfolding opens
returns-in_default c = let e = sym c.read_state.ensures ∙ c.in_default.is in
    record { value = rw e; state_after = rw e }

pub returns-in-Err : goal.returns-in-Err
unfolding opens
returns-in-Err c = let x = c.args in
    let s = c.in-Some.s in
    let e = sym c.read_state.ensures ∙ c.in-Some.is in
    let r = opens_is (opening s x.carry.now x.chunk.now) c.open-opened.result c.open-opened.ensures in
    let d = sym (ap (λ (o : Opened). o.leave) r) ∙ c.in-Err.is in
    record { value = c.into.ensures ∙ rw (e, d); state_after = rw (e, open_refused s x.carry.now x.chunk.now _ d) (sym (same x.state.now s e)) }

pub returns-in-Ok : goal.returns-in-Ok
unfolding opens
returns-in-Ok c = let x = c.args in
    let s = c.in-Some.s in
    let e = sym c.read_state.ensures ∙ c.in-Some.is in
    let r = opens_is (opening s x.carry.now x.chunk.now) c.open-opened.result c.open-opened.ensures in
    let g = sym (ap (λ (o : Opened). o.leave) r) ∙ c.in-Ok.is in
    let k = open_keeps s x.carry.now x.chunk.now g in
    record { value = rw (e, g); state_after = c.write_opened.ensures ∙ rw (e, r) (sym (opened_words_are x.state.now s e x.carry.now x.chunk.now _ k)) }
