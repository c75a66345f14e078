-- `seek::side_from` meets its contract, by the side.
use Prim.Native.Nat.{◌-◌}
use borrow.Author.Tests.{lt-ltb, le-ltb}
use lib.ListN.{length}
use Rattle.window.proofs.Laws.{from}
use Rattle.window.proofs.Pick.{pick_true, pick_false}
use native.Mathlib.Omega.{arith}
use mathlib.Core.Path.{sym, ◌∙◌}
use Rattle.seek.proofs.side_from.Goals as goal

pub returns-then-k-left : goal.returns-then-k-left
returns-then-k-left c = let w = c.args.window in
    rw (lt-ltb c.args.k (length w.carry.now) (omega arith)) (from w.carry.now c.args.k ∙ sym (pick_true _ _))

pub returns-else-k-left : goal.returns-else-k-left
returns-else-k-left c = let w = c.args.window in
    rw (le-ltb c.args.k (length w.carry.now) (omega arith)) (from w.chunk.now (c.args.k - length w.carry.now) ∙ sym (pick_false _ _))
