-- `window::past_bytes` meets its contract: each byte that is passed is not looked for.
use Rattle.std.proofs.Common.{sym, ◌∙◌, add-one, arith}
use Rattle.window.specs.Search.{told}
use Rattle.window.proofs.Laws.{first_next}
use Rattle.window.proofs.past_bytes.Goals as goal

pub loop-i-preserved : goal.loop-i-preserved
loop-i-preserved c =
    let p = c.loop-i.invariant in
    let h = c.loop-i-test.true in
    let n = first_next (told c.args.needle) c.args.s.now c.loop-i.i (omega (arith, c.requires.1)) (sym c.tells.ensures ∙ c.if-tells.false) in
    rw add-one (record { low = omega (arith, p.low); high = omega (arith, c.requires.1); same = omega (arith, p.same) })
