-- `window::past_bytes` meets its contract: each byte that is passed is not looked for.
use Rattle.window.specs.Search.{told, PastNone}
use Rattle.window.proofs.past_bytes.Given as goal

abbrev pub invariant-loop-i : goal.invariant-loop-i
invariant-loop-i l = PastNone (told l.needle) l.s l.from l.i
