-- `quick_step::past_noise` meets its contract: the search is over what is left of the carry and of the chunk, or of the chunk alone.
use mathlib.Core.Path.{sym, ◌∙◌}
use native.Mathlib.Nat.{zero-add}
use native.Mathlib.Omega.{arith}
use Rattle.window.specs.Sync.{is_sync}
use Rattle.window.proofs.Laws.{from, first_here, first_end}
use Rattle.state.proofs.Window.{drain_zero}
use Rattle.opening.proofs.Slices.{syncs_at_once}
use Rattle.quick_step.proofs.Noise.{window_ahead, drain_ahead}
use Rattle.quick_step.proofs.past_noise.Goals as goal

pub returns-then-is_sync : goal.returns-then-is_sync
returns-then-is_sync c = let z = c.args.p.now in let r = z.ready in
    let here = syncs_at_once z.state z.carry.now z.chunk.now r.sane c.if-s.true (sym c.is_sync.ensures ∙ c.if-is_sync.true) in
    sym (drain_zero z.state) ∙ rw here

pub returns-then-s : goal.returns-then-s
returns-then-s c = let z = c.args.p.now in let r = z.ready in
    c.drained.ensures ∙ rw (c.find_sync-k.ensures.value, c.window.ensures.carry_left, c.window.ensures.chunk_ahead, zero-add)

pub returns-then-is_sync-2 : goal.returns-then-is_sync-2
returns-then-is_sync-2 c = let z = c.args.p.now in let r = z.ready in let o = r.sane.offs in let l = r.sane.chunks in
    let n = c.if-s.false in let p = c.if-s-2.true in
    let w = window_ahead z.state z.carry.now z.chunk.now r (omega arith) in
    let here = first_here (is_sync z.state.mode) z.chunk.now z.state.part (omega arith) (sym c.is_sync-then-s-2.ensures ∙ c.if-is_sync-2.true) in
    sym (drain_zero z.state) ∙ rw (w, here)

pub returns-then-s-2 : goal.returns-then-s-2
returns-then-s-2 c = let z = c.args.p.now in let r = z.ready in let o = r.sane.offs in
    let n = c.if-s.false in let found = c.sync_in-k in
    let w = window_ahead z.state z.carry.now z.chunk.now r (omega arith) in
    drain_ahead z.state z.carry.now z.chunk.now r (omega arith) found.result ∙ rw (found.ensures.value, from z.chunk.now z.state.part, w)

pub returns : goal.returns
returns c = let z = c.args.p.now in let r = z.ready in let o = r.sane.offs in let l = r.sane.chunks in
    let n = c.if-s.false in let p = c.if-s-2.false in
    let w = window_ahead z.state z.carry.now z.chunk.now r (omega arith) in
    sym (drain_zero z.state) ∙ rw (w, first_end (is_sync z.state.mode) z.chunk.now z.state.part (omega arith))
