-- `window::past_64` meets its contract: each block that is passed has none of what is looked for.
use Rattle.std.proofs.Common.{sym, ◌∙◌, arith}
use Rattle.window.specs.Search.{told}
use Rattle.window.proofs.Laws.{first_block}
use Rattle.window.proofs.past_64.Goals as goal

pub loop-block-preserved : goal.loop-block-preserved
loop-block-preserved c =
    let p = c.loop-block.invariant in
    let h = c.in-Some.ensures.steps in
    let b = first_block (told c.args.needle) c.args.s.now c.in-Some.block.now _ c.loop-block.i 64 (sym p.rest ∙ h.1.0) (h.1.1 ∙ p.size) (sym c.any.ensures ∙ c.if-any.false) in
    record {
      size = h.0 ∙ p.size;
      rest = b.1;
      past = record { low = omega arith; high = omega (arith, b.0, p.past.high); same = omega (arith, p.past.same, b.2) };
    }
