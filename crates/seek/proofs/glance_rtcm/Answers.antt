-- `seek::glance_rtcm` meets its contract: a law for each way out.
use mathlib.Core.Path.{sym, ap, ◌∙◌}
use Rattle.look.specs.declared.Sight.TheVariants.{Say}
use Rattle.seek.proofs.OneSide.{side_lacks_rtcm, side_hands_rtcm, side_fits_rtcm}
use Rattle.seek.proofs.glance_rtcm.Goals as goal
use Rattle.seek.proofs.glance_rtcm.Goals.{else-s-size-via-then-s-size+else-cap-size, else-s-size-via-else-s-size}

pub returns-then-w-size : goal.returns-then-w-size
returns-then-w-size c = λ u W h. let x = c.args in
    side_lacks_rtcm x.s.now W u x.w h x.parity x.cap c.requires c.rtcm_length-n.result c.rtcm_length-n.ensures (rw c.around.ensures.value at c.if-w-size.true) ∙ ap Say (rw (← c.around.ensures.value) (sym c.lacks.ensures))

pub returns : goal.returns
returns c = λ u W h. let x = c.args in let size = c.around.ensures.value in rw c.if-parity.false elim c.else-s-size.branch [
  | else-s-size-via-then-s-size+else-cap-size v ↦ side_fits_rtcm x.s.now W u x.w h x.cap c.requires c.rtcm_length-n.result c.rtcm_length-n.ensures (rw (size, c.if-parity.false) at c.if-w-size.false) (rw (size, c.if-parity.false) at v.if-cap-size.false)
  | else-s-size-via-else-s-size v ↦ side_hands_rtcm x.s.now W u x.w h x.cap c.requires c.rtcm_length-n.result c.rtcm_length-n.ensures (rw (size, c.if-parity.false) at v.if-s-size.false)
]
