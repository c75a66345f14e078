-- `seek::head_of` meets its contract: the rule that the front byte calls for.
use mathlib.Core.Path.{ap, ◌∙◌}
use mathlib.Core.Bool.{false}
use native.Mathlib.Omega.{arith}
use Rattle.std.specs.Prelude.{Some}
use Rattle.look.specs.Rules.{Look, look_ubx}
use Rattle.look.specs.Moves.{settled, step_move}
use Rattle.seek.specs.declared.Head.TheVariants.{Past, Ubx}
use Rattle.seek.proofs.OneSide.{ruled_ubx, ruled_rtcm, claims_rtcm, heads_by}
use Rattle.seek.proofs.head_of.Goals as goal

pub returns-in-Ok : goal.returns-in-Ok
returns-in-Ok c = λ mode sync bare. let x = c.args in
    heads_by (λ cap u W. settled cap u W (look_ubx x.max W)) (λ cap u W. step_move mode x.max cap u W) x.s.now
    (λ cap u w W h. ruled_ubx x.s.now W u w h mode x.max cap (omega arith) sync c.if-x.true)
    (Some (Ubx c.in-Ok.head)) (rw c.in-Ok.is at c.ubx_head.ensures)

pub returns-in-Err : goal.returns-in-Err
returns-in-Err c = λ mode sync bare. let x = c.args in
    heads_by (λ cap u W. settled cap u W (look_ubx x.max W)) (λ cap u W. step_move mode x.max cap u W) x.s.now
    (λ cap u w W h. ruled_ubx x.s.now W u w h mode x.max cap (omega arith) sync c.if-x.true)
    (Some (Past c.in-Err.why)) (rw c.in-Err.is at c.ubx_head.ensures)

pub returns : goal.returns
returns c = λ mode sync bare. let x = c.args in let n = c.rtcm_length-n.result in (
  omega arith,
  omega (arith, c.rtcm_length-n.ensures),
  λ cap u w W h.
      rw bare at (ruled_rtcm x.s.now W u w h mode x.max cap (omega arith) sync c.if-x.false c.if-x-2.false)
      ∙ ap (λ (l : Look). settled cap u W l) (claims_rtcm x.s.now W u w h false cap (omega arith) n c.rtcm_length-n.ensures),
)
