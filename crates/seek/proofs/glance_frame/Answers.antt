-- `seek::glance_frame` meets its contract: a law for each way out.
use mathlib.Core.Path.{sym, ap, ◌∙◌}
use Rattle.look.specs.declared.Sight.TheVariants.{Say}
use Rattle.seek.proofs.OneSide.{frame_lacks, frame_judged, frame_both}
use Rattle.seek.proofs.glance_frame.Goals as goal

pub returns-then-w-head : goal.returns-then-w-head
returns-then-w-head c = let x = c.args in λ u W h beside. frame_lacks x.s.now W u x.w h x.cap x.head.class x.head.id x.head.n c.if-w-head.true ∙ ap Say (sym c.lacks.ensures)

pub returns-then-head-s : goal.returns-then-head-s
returns-then-head-s c = let x = c.args in λ u W h beside.
    frame_judged x.s.now W u x.w h x.cap x.head.class x.head.id x.head.n c.if-head-s.true
    ∙ ap Say (sym (c.judged.ensures ∙ rw (c.update-got.ensures, c.new.ensures)))

pub returns : goal.returns
returns c = let x = c.args in λ u W h beside.
    frame_both x.s.now W u x.w h x.cap x.head.class x.head.id x.head.n x.b.now beside c.if-w-head.false c.if-head-s.false c.if-cap-body.false
    ∙ ap Say (sym c.ubx_judged.ensures)
