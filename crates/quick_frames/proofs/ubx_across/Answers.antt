-- `quick_frames::ubx_across` meets its contract: the sum over both sides decides.
use mathlib.Core.Path.{◌≡◌, refl, ap, ◌∙◌}
use mathlib.Core.Logic.{◌⊎◌, inl, inr}
use native.Mathlib.Omega.{arith}
use Rattle.framer.specs.Step.{say}
use Rattle.quick_words.proofs.Written.{leaves_by}
use Rattle.quick_frames.proofs.Ways.{decides_across, sum_right, sum_wrong}
use Rattle.quick_frames.proofs.ubx_across.Goals as goal
use Rattle.quick_frames.proofs.ubx_across.Goals.{else-x-got-via-then-x-got+else-y-got, else-x-got-via-else-x-got}

pub bring-requires : goal.bring-requires
bring-requires c = let h = c.requires in let l = h.s_bound in
    let room = c.has_room.ensures c.if-not-has_room.false in
    record { before_value = (refl, refl); kind_bound = (omega arith, (room.0, (omega arith, room.1))) }

pub returns-then-y-got-clause-quickly : goal.returns-then-y-got-clause-quickly
returns-then-y-got-clause-quickly c = let x = c.args in let z = x.p.now in let h = c.requires in let r = z.ready in let o = r.sane.lives in let l = h.s_bound in
    let room = c.has_room.ensures c.if-not-has_room.false in
    let p = room.0 in let q = room.1 in
    let all = c.window-window.ensures in
    let sum = c.sum_of-got in
    let here = c.byte_at-x in
    let next = c.byte_at-y in
    leaves_by _ _ _ _ _ _
    (decides_across z.state z.carry.now z.chunk.now r x.head.class x.head.id x.head.n h.chunk_value here.result next.result sum.result (omega arith) (omega arith) (rw (all.carry_left, all.chunk_ahead) at here.ensures) (rw (all.carry_left, all.chunk_ahead) at next.ensures) (rw (all.carry_left, all.chunk_ahead) at sum.ensures)
    ∙ ap (say z.state z.carry.now z.chunk.now) (sum_right here.result next.result sum.result x.head.class x.head.id x.head.n c.if-x-got.true c.if-y-got.true))
    c.bring.ensures.leaves

pub tell_wrong-requires : goal.tell_wrong-requires
tell_wrong-requires c = let z = c.args.p.now in let h = c.requires in let r = z.ready in let l = h.s_bound in let w = r.counts in
    (r.sane.offs, (r.sane.parts, (omega arith, omega arith)))

pub returns-clause-quickly : goal.returns-clause-quickly
returns-clause-quickly c = let x = c.args in let z = x.p.now in let h = c.requires in let r = z.ready in let o = r.sane.lives in let l = h.s_bound in
    let room = c.has_room.ensures c.if-not-has_room.false in
    let p = room.0 in let q = room.1 in
    let all = c.window-window.ensures in
    let sum = c.sum_of-got in
    let here = c.byte_at-x in
    let next = c.byte_at-y in
    let wrong : (here.result ≡ sum.result.a → ⊥) ⊎ (next.result ≡ sum.result.b → ⊥) = elim c.else-x-got.branch [
      | else-x-got-via-then-x-got+else-y-got w ↦ inr w.if-y-got.false
      | else-x-got-via-else-x-got w ↦ inl w.if-x-got.false
    ] in
    leaves_by _ _ _ _ _ _
    (decides_across z.state z.carry.now z.chunk.now r x.head.class x.head.id x.head.n h.chunk_value here.result next.result sum.result (omega arith) (omega arith) (rw (all.carry_left, all.chunk_ahead) at here.ensures) (rw (all.carry_left, all.chunk_ahead) at next.ensures) (rw (all.carry_left, all.chunk_ahead) at sum.ensures)
    ∙ ap (say z.state z.carry.now z.chunk.now) (sum_wrong here.result next.result sum.result x.head.class x.head.id x.head.n wrong))
    (c.tell_wrong.ensures z.carry.now z.chunk.now)
