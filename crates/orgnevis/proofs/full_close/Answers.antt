-- `orgnevis::full_close` meets its contract.
use mathlib.Core.Path.{sym, ap, ◌∙◌}
use Rattle.opening.specs.declared.Closed.{Closed}
use Rattle.opening.specs.Operations.{closing}
use Rattle.opening.proofs.Determined.{closes_is}
use Rattle.orgnevis.specs.Calls.{closes}
use Rattle.words.proofs.Kept.{close_keeps, close_refused, same, closed_words_are}
use Rattle.orgnevis.proofs.full_close.Goals as goal

pub returns-in_default : goal.returns-in_default
unfolding closes
returns-in_default c = let e = sym c.read_state.ensures ∙ c.in_default.is in
    record { state_after = rw e; out_after = c.write_report.ensures ∙ rw e; carry_after = rw e }

pub returns-in-Err : goal.returns-in-Err
unfolding closes
returns-in-Err c = let x = c.args in
    let s = c.in-Some.s in
    let e = sym c.read_state.ensures ∙ c.in-Some.is in
    let r = closes_is (closing s x.carry.now x.chunk.now) c.close-closed.result _ c.close-closed.ensures in
    let d = sym (ap (λ (o : Closed). o.leave) r.0) ∙ c.in-Err.is in
    let k = close_refused s x.carry.now x.chunk.now _ d in
    record { state_after = rw (e, k) (sym (same x.state.now s e)); out_after = c.write_report-in-Err.ensures ∙ rw (e, k, c.into.ensures); carry_after = r.1 ∙ rw e }

pub returns-in-Ok : goal.returns-in-Ok
unfolding closes
returns-in-Ok c = let x = c.args in
    let s = c.in-Some.s in
    let e = sym c.read_state.ensures ∙ c.in-Some.is in
    let r = closes_is (closing s x.carry.now x.chunk.now) c.close-closed.result _ c.close-closed.ensures in
    let g = sym (ap (λ (o : Closed). o.leave) r.0) ∙ c.in-Ok.is in
    let k = close_keeps s x.carry.now x.chunk.now g in
    record { state_after = c.write_closed.ensures ∙ rw (e, k, r.0) (sym (closed_words_are x.state.now s e _)); out_after = c.write_report-in-Ok.ensures ∙ rw (e, r.0, g); carry_after = r.1 ∙ rw e }
