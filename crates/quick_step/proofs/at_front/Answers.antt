-- `quick_step::at_front` meets its contract: a head that one side has claims a frame, whatever stands behind that side.
use Rattle.quick_words.proofs.Written.{leaves_by}
use Rattle.quick_frames.proofs.Ways.{first_begins, first_none, first_sync}
use Rattle.quick_step.proofs.Noise.{empty_waits}
use Rattle.quick_step.proofs.at_front.Goals as goal

pub returns-then-f-eq0-clause-quickly : goal.returns-then-f-eq0-clause-quickly
returns-then-f-eq0-clause-quickly c = let z = c.args.p.now in let r = z.ready in
    let empty = first_none z.state z.carry.now z.chunk.now r _ (rw (c.window.ensures.carry_left, c.window.ensures.chunk_ahead) at c.first_of-f.ensures) c.if-f-eq0.true in
    leaves_by _ _ _ _ _ _ (empty_waits z.state z.carry.now z.chunk.now r empty) (c.wait.ensures z.carry.now z.chunk.now)

pub at_ubx-requires : goal.at_ubx-requires
at_ubx-requires c = let z = c.args.p.now in let p = c.requires in let r = z.ready in
    let first = rw (c.window.ensures.carry_left, c.window.ensures.chunk_ahead) at c.first_of-f.ensures in
    let b = first_begins z.state z.carry.now z.chunk.now r _ first in
    let sync = first_sync z.state z.carry.now z.chunk.now r _ first c.if-f-eq0.false p.fact in
    let h = rw (c.in-Some-Ubx.is, c.in-Some-Ubx.field-0-is) at (c.head_of.ensures z.state.mode sync p.mode_value) in
    record { chunk_value = h.2 z.state.cap _ _ _ b; n_bound = h.1 }

pub at_rtcm-requires : goal.at_rtcm-requires
at_rtcm-requires c = let z = c.args.p.now in let p = c.requires in let r = z.ready in
    let first = rw (c.window.ensures.carry_left, c.window.ensures.chunk_ahead) at c.first_of-f.ensures in
    let b = first_begins z.state z.carry.now z.chunk.now r _ first in
    let sync = first_sync z.state z.carry.now z.chunk.now r _ first c.if-f-eq0.false p.fact in
    let h = rw (c.in-Some-Rtcm.is, c.in-Some-Rtcm.field-0-is) at (c.head_of.ensures z.state.mode sync p.mode_value) in
    record { chunk_value = h.2 z.state.cap _ _ _ b; n_bound = h.1 }
