-- `quick_frames::at_ubx` meets its contract: a frame waits, lies on both sides, or its sum decides on one.
use mathlib.Core.Path.{◌≡◌, refl, ap, ◌∙◌}
use mathlib.Core.Logic.{◌⊎◌, inl, inr}
use Prim.Native.Nat.{◌+◌}
use native.Mathlib.Omega.{arith}
use lib.ListN.{get_or}
use Rattle.claim.specs.declared.Kind.TheVariants.{Ubx}
use Rattle.framer.specs.Step.{say}
use Rattle.quick_words.proofs.Written.{leaves_by}
use Rattle.quick_frames.proofs.Ways.{first_short, on_first, waits, decides_here, sum_right, sum_wrong}
use Rattle.quick_frames.proofs.at_ubx.Goals as goal
use Rattle.quick_frames.proofs.at_ubx.Goals.{else-x-got-via-then-x-got+else-y-got, else-x-got-via-else-x-got}

pub returns-then-w-n-clause-quickly : goal.returns-then-w-n-clause-quickly
returns-then-w-n-clause-quickly c = let x = c.args in let z = x.p.now in let h = c.requires in
    let l = c.if-w-n.true in
    let room = c.if-s-w.false in
    leaves_by _ _ _ _ _ _
    (waits z.state z.carry.now z.chunk.now z.ready (Ubx x.head.class x.head.id x.head.n) h.chunk_value (omega arith) (omega arith))
    (c.wait.ensures z.carry.now z.chunk.now)

pub ubx_across-requires : goal.ubx_across-requires
ubx_across-requires c = let z = c.args.p.now in let h = c.requires in let r = z.ready in
    let l = c.if-w-n.false in
    let f = c.if-f-n.true in
    let g = first_short z.state z.carry.now z.chunk.now r _ (rw (c.window.ensures.carry_left, c.window.ensures.chunk_ahead) at c.first_of-f.ensures) in
    record { chunk_value = h.chunk_value; s_bound = (omega arith, omega arith) }

pub hand-requires : goal.hand-requires
hand-requires c = let x = c.args in let z = x.p.now in let r = z.ready in
    let l = c.if-w-n.false in
    let f = c.if-f-n.false in
    let side = on_first z.state z.carry.now z.chunk.now r _ (rw (c.window.ensures.carry_left, c.window.ensures.chunk_ahead) at c.first_of-f.ensures) (Ubx x.head.class x.head.id x.head.n) (omega arith) in
    record { before_value = (refl, refl); off_le_live = (r.sane.offs, (r.sane.parts, r.counts)); kind_bound = (omega arith, side) }

pub returns-then-y-got-clause-quickly : goal.returns-then-y-got-clause-quickly
returns-then-y-got-clause-quickly c = let x = c.args in let z = x.p.now in let h = c.requires in let r = z.ready in
    let l = c.if-w-n.false in
    let m = c.if-f-n.false in
    let f = c.first_of-f.result.now in
    let first = rw (c.window.ensures.carry_left, c.window.ensures.chunk_ahead) at c.first_of-f.ensures in
    let new = c.new.ensures in
    let sum = c.update-got in
    leaves_by _ _ _ _ _ _
    (decides_here z.state z.carry.now z.chunk.now r x.head.class x.head.id x.head.n h.chunk_value f first (omega arith) sum.result (rw new at sum.ensures)
    ∙ ap (say z.state z.carry.now z.chunk.now) (sum_right (get_or f (6 + x.head.n) 0) (get_or f (6 + x.head.n + 1) 0) sum.result x.head.class x.head.id x.head.n c.if-x-got.true c.if-y-got.true))
    (c.hand.ensures z.carry.now z.chunk.now)

pub returns-clause-quickly : goal.returns-clause-quickly
returns-clause-quickly c = let x = c.args in let z = x.p.now in let h = c.requires in let r = z.ready in
    let l = c.if-w-n.false in
    let m = c.if-f-n.false in
    let f = c.first_of-f.result.now in
    let first = rw (c.window.ensures.carry_left, c.window.ensures.chunk_ahead) at c.first_of-f.ensures in
    let new = c.new.ensures in let sum = c.update-got in
    let wrong : (get_or f (6 + x.head.n) 0 ≡ sum.result.a → ⊥) ⊎ (get_or f (6 + x.head.n + 1) 0 ≡ sum.result.b → ⊥) = elim c.else-x-got.branch [
      | else-x-got-via-then-x-got+else-y-got w ↦ inr w.if-y-got.false
      | else-x-got-via-else-x-got w ↦ inl w.if-x-got.false
    ] in
    leaves_by _ _ _ _ _ _
    (decides_here z.state z.carry.now z.chunk.now r x.head.class x.head.id x.head.n h.chunk_value f first (omega arith) sum.result (rw new at sum.ensures)
    ∙ ap (say z.state z.carry.now z.chunk.now) (sum_wrong (get_or f (6 + x.head.n) 0) (get_or f (6 + x.head.n + 1) 0) sum.result x.head.class x.head.id x.head.n wrong))
    (c.tell_wrong.ensures z.carry.now z.chunk.now)
