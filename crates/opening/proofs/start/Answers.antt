-- `opening::start` meets its contract.
use mathlib.Core.Path.{refl}
use borrow.Author.Tests.{lt-ltb, le-ltb}
use Rattle.window.specs.Pick.{pick}
use Rattle.opening.specs.Operations.{start}
use Rattle.opening.proofs.start.Goals as goal

pub returns-then-carry-gt-LIMIT : goal.returns-then-carry-gt-LIMIT
unfolding start pick
returns-then-carry-gt-LIMIT c = rw (lt-ltb _ _ c.if-carry-gt-LIMIT.true) (record { refusal = refl; state = c.idle.ensures })

pub returns : goal.returns
unfolding start pick
returns c = rw (le-ltb _ _ c.if-carry-gt-LIMIT.false) (record { refusal = refl; state = c.idle-2.ensures })
