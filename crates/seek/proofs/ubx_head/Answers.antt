-- `seek::ubx_head` meets its contract: a law for each way out.
use mathlib.Core.Path.{ap, ◌∙◌}
use native.Mathlib.Omega.{arith}
use Rattle.look.specs.Rules.{Look}
use Rattle.look.specs.Moves.{settled}
use Rattle.seek.proofs.OneSide.{side_other, side_over, claims}
use Rattle.seek.proofs.ubx_head.Goals as goal

pub returns-then-s-ne-UBX_SYNC_CHAR_2 : goal.returns-then-s-ne-UBX_SYNC_CHAR_2
returns-then-s-ne-UBX_SYNC_CHAR_2 c = let x = c.args in λ cap u w W h. side_other x.s.now W u w h x.max cap c.requires c.if-s-ne-UBX_SYNC_CHAR_2.true

pub returns-then-max-length : goal.returns-then-max-length
returns-then-max-length c = let x = c.args in λ cap u w W h. side_over x.s.now W u w h x.max cap c.requires c.if-s-ne-UBX_SYNC_CHAR_2.false c.word-length.result c.word-length.ensures c.if-max-length.true

pub returns : goal.returns
returns c = let x = c.args in (
  c.requires,
  omega arith,
  λ cap u w W h. ap (λ (l : Look). settled cap u W l)
      (claims x.s.now W u w h x.max cap c.requires c.if-s-ne-UBX_SYNC_CHAR_2.false c.from.result (c.from.ensures ∙ c.word-length.ensures) (rw c.from.ensures c.if-max-length.false)),
)
