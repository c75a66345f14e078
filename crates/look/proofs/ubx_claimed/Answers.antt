-- `look::ubx_claimed` meets its contract.
use mathlib.Core.Path.{sym, ap, ◌∙◌}
use Prim.Native.Nat.{◌+◌}
use native.Mathlib.Omega.{arith}
use lib.ListN.{length}
use Rattle.claim.specs.declared.Kind.TheVariants.{Ubx}
use Rattle.look.specs.declared.Sight.TheVariants.{Say}
use Rattle.look.proofs.Rules.{hand_whole, claim_fits, claim_lacks}
use Rattle.look.proofs.ubx_claimed.Goals as goal

pub ubx_judged-requires : goal.ubx_judged-requires
ubx_judged-requires c = let x = c.args in
    omega (arith, hand_whole x.cap (length x.window.carry.now) (length x.window.carry.now + length x.window.chunk.now) 6 (x.head.n + 2) (rw c.len-w.ensures at (sym c.can_hand.ensures ∙ c.if-can_hand.true)))

pub returns-then-can_hand : goal.returns-then-can_hand
returns-then-can_hand c = let x = c.args in
    ap Say c.ubx_judged.ensures ∙ sym (claim_fits x.cap x.window.carry.now x.window.chunk.now (Ubx x.head.class x.head.id x.head.n) (rw c.len-w.ensures at (sym c.can_hand.ensures ∙ c.if-can_hand.true)))

pub returns : goal.returns
returns c = let x = c.args in
    ap Say (c.lacks.ensures ∙ rw c.len-w.ensures) ∙ sym (claim_lacks x.cap x.window.carry.now x.window.chunk.now (Ubx x.head.class x.head.id x.head.n) (rw c.len-w.ensures at (sym c.can_hand.ensures ∙ c.if-can_hand.false)))
