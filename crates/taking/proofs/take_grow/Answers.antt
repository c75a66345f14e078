-- `taking::take_grow` meets its contract.
use mathlib.Core.Path.{◌∙◌}
use Rattle.window.proofs.Laws.{from}
use Rattle.taking.proofs.take_grow.Goals as goal

pub returns : goal.returns
returns c = let x = c.args in
    record { value = rw (c.extend-live.ensures.value, c.least-n.ensures); carry_after = c.extend-live.ensures.carry_after ∙ rw (from x.chunk.now x.s.part, c.least-n.ensures) }
