-- `seek::seek` meets its contract: turn by turn, the first `skip` bytes are passed in silence.
use mathlib.Core.Path.{sym, ◌∙◌}
use Rattle.window.specs.Window.{bytes}
use Prim.Native.Nat.{◌≤◌}
use native.Mathlib.Omega.{arith}
use lib.ListN.{length, length-append}
use Rattle.seek.specs.Passed.{start}
use Rattle.seek.proofs.Passed.{at_end, pass_on}
use Rattle.seek.proofs.seek.Goals as goal

pub loop-skip-init : goal.loop-skip-init
loop-skip-init c = record { within = omega arith; passed = start }

pub next_sync-skip-requires : goal.next_sync-skip-requires
next_sync-skip-requires c = let x = c.args in
    let a = x.window.carry.now in let W = bytes x.window in let k = c.loop-skip.skip in
    let h : k ≤ length W = simp length-append (omega arith) in
    let p = pass_on x.mode x.max x.cap (length a) W k c.in-Pass.why h c.loop-skip.invariant.passed (sym c.look_at.ensures ∙ c.in-Pass.is) in
    record { within = omega (arith, simp length-append at p.1, c.far.ensures); side = c.side_from-side.ensures }

pub loop-skip-preserved : goal.loop-skip-preserved
loop-skip-preserved c = let x = c.args in
    let a = x.window.carry.now in let W = bytes x.window in let k = c.loop-skip.skip in
    let h : k ≤ length W = simp length-append (omega arith) in
    let p = pass_on x.mode x.max x.cap (length a) W k c.in-Pass.why h c.loop-skip.invariant.passed (sym c.look_at.ensures ∙ c.in-Pass.is) in
    record { within = c.next_sync-skip.ensures.upper_bound; passed = rw (c.next_sync-skip.ensures.value, c.far.ensures) p.2 }

pub returns : goal.returns
returns c = let x = c.args in
    let W = bytes x.window in
    let h : length W ≤ c.loop-skip.skip = simp length-append (omega arith) in
    let w : c.loop-skip.skip ≤ length W = simp length-append (omega arith) in
    record { passed = c.loop-skip.invariant.passed; within = w; there = at_end x.mode x.max x.cap (length x.window.carry.now) W c.loop-skip.skip h }
