-- `quick_frames::at_rtcm` meets its contract: a frame without parity has no sum to be judged by.
use mathlib.Core.Path.{refl, ap, ◌∙◌}
use mathlib.Core.Bool.{false}
use mathlib.Core.Logic.{inl, inr}
use Prim.Native.Nat.{◌+◌, ◌≤◌, ◌<◌}
use native.Mathlib.Omega.{arith}
use Rattle.claim.specs.declared.Kind.TheVariants.{Rtcm}
use Rattle.look.proofs.Rules.{judge_bare}
use Rattle.seek.specs.OneSide.{OnOneSide}
use Rattle.state.specs.Words.{left_len, window, width}
use Rattle.framer.specs.Step.{say}
use Rattle.quick_words.proofs.Written.{leaves_by}
use Rattle.quick_frames.proofs.Ways.{waits, judges_here, judges_fitting}
use Rattle.quick_frames.proofs.at_rtcm.Goals as goal
use Rattle.quick_frames.proofs.at_rtcm.Goals.{then-left-eq0-via-then-left-eq0, then-left-eq0-via-else-left-eq0+then-size-left}

pub returns-then-w-size-clause-quickly : goal.returns-then-w-size-clause-quickly
returns-then-w-size-clause-quickly c = let x = c.args in let z = x.p.now in let h = c.requires in
    let l = c.if-w-size.true in
    let room = c.if-s-w.false in
    leaves_by _ _ _ _ _ _
    (waits z.state z.carry.now z.chunk.now z.ready (Rtcm x.n false) h.chunk_value (omega arith) (omega arith))
    (c.wait.ensures z.carry.now z.chunk.now)

pub hand-requires : goal.hand-requires
hand-requires c = let x = c.args in let z = x.p.now in let r = z.ready in
    let l = c.if-w-size.false in
    let side : OnOneSide (left_len z.state) (Rtcm x.n false) = elim c.then-left-eq0.branch [
      | then-left-eq0-via-then-left-eq0 w ↦ inl w.if-left-eq0.true
      | then-left-eq0-via-else-left-eq0+then-size-left w ↦ inr (omega arith)
    ] in
    record { before_value = (refl, refl); off_le_live = (r.sane.offs, (r.sane.parts, r.counts)); kind_bound = (omega arith, side) }

pub returns-then-left-eq0-clause-quickly : goal.returns-then-left-eq0-clause-quickly
returns-then-left-eq0-clause-quickly c = let x = c.args in let z = x.p.now in let h = c.requires in
    let l = c.if-w-size.false in
    let side : OnOneSide (left_len z.state) (Rtcm x.n false) = elim c.then-left-eq0.branch [
      | then-left-eq0-via-then-left-eq0 w ↦ inl w.if-left-eq0.true
      | then-left-eq0-via-else-left-eq0+then-size-left w ↦ inr (omega arith)
    ] in
    leaves_by _ _ _ _ _ _
    (judges_here z.state z.carry.now z.chunk.now z.ready (Rtcm x.n false) h.chunk_value (omega arith) side
    ∙ ap (say z.state z.carry.now z.chunk.now) (judge_bare x.n (window z.state z.carry.now z.chunk.now)))
    (c.hand.ensures z.carry.now z.chunk.now)

pub has_room-requires : goal.has_room-requires
has_room-requires c = let x = c.args in let z = x.p.now in let h = c.requires in let r = z.ready in let n = h.n_bound in
    let b = c.if-size-left.false in
    let l : left_len z.state < 0 + (x.n + 3) = omega arith in
    let m : 0 + (x.n + 3) ≤ 32768 = omega arith in
    record { off_le_live = (r.sane.offs, r.sane.lives); s_bound = (l, m) }

pub bring-requires : goal.bring-requires
bring-requires c = let x = c.args in let z = x.p.now in let r = z.ready in
    let l = c.if-w-size.false in
    let a = c.if-size-left.false in
    let room = c.has_room.ensures c.if-not-has_room.false in
    let all : 0 + (x.n + 3) ≤ width z.state = omega arith in
    let more : left_len z.state < 0 + (x.n + 3) = omega arith in
    record { before_value = (refl, refl); kind_bound = (all, (room.0, (more, room.1))) }

pub returns-clause-quickly : goal.returns-clause-quickly
returns-clause-quickly c = let x = c.args in let z = x.p.now in let h = c.requires in let r = z.ready in let o = r.sane.lives in
    let l = c.if-w-size.false in
    let room = c.has_room.ensures c.if-not-has_room.false in
    let p = room.0 in let q = room.1 in
    leaves_by _ _ _ _ _ _
    (judges_fitting z.state z.carry.now z.chunk.now r (Rtcm x.n false) h.chunk_value (omega arith) (omega arith)
    ∙ ap (say z.state z.carry.now z.chunk.now) (judge_bare x.n (window z.state z.carry.now z.chunk.now)))
    c.bring.ensures.leaves
