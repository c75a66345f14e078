-- `one` of the listing meets its contract: the step is its definition, and the line says its answer.
use Rattle.std.proofs.Common.{ℕ, ltb, ap, ◌∙◌}
use Rattle.framer.specs.Step.{step}
use Rattle.framer.proofs.Determined.{steps_is}
use Rattle.lister.specs.Laws.{grows}
use Rattle.lister.proofs.ListingTeller.one.Goals as goal

pub returns : goal.returns
returns c =
    let x = c.args in
    let l = x.run.now in
    let o = step l.state x.carry.now x.chunk.now in
    let e = steps_is o c.step-stepped.result c.step-stepped.new.carry c.step-stepped.ensures in
    let p = rw e.0 at c.line.ensures in
    record {
      run = rw e.0;
      carries = e.1;
      adds = p;
      goes = ap (λ (n : ℕ). ltb x.lines.now.len n) p.puts.place ∙ grows l.by.named l.state.mode l.used x.lines.now.len o.result.answer;
    }
