-- `quick_chunk::open_at_once` meets its contract.
use mathlib.Core.Path.{◌≡◌, sym, ◌∙◌}
use native.Mathlib.Omega.{arith}
use lib.ListN.{length}
use Rattle.window.specs.Sync.{first_sync}
use Rattle.state.proofs.Granted.{open_granted}
use Rattle.quick_chunk.proofs.AtOnce.{at_carry, at_nothing, at_chunk}
use Rattle.quick_chunk.proofs.open_at_once.Goals as goal

pub bounds-carry-0 : goal.bounds-carry-0
bounds-carry-0 c = let x = c.args in
    let h = (open_granted x.s x.carry.now x.chunk.now c.requires).sound in
    let n = h.caps in
    let l = h.lives in
    omega arith

pub returns-then-s-gt0 : goal.returns-then-s-gt0
returns-then-s-gt0 c = let x = c.args in
    let e = sym c.is_sync.ensures ∙ c.if-not-is_sync.false in
    c.write_opened.ensures ∙ rw (at_carry x.s x.carry.now x.chunk.now c.requires (omega arith) e)

pub returns-then-i-len : goal.returns-then-i-len
returns-then-i-len c = let x = c.args in
    let i = c.sync_in-i.ensures in
    let e : length x.chunk.now ≡ first_sync x.s.mode x.chunk.now = omega arith in
    c.write_opened-then-i-len.ensures ∙ rw (at_nothing x.s x.carry.now x.chunk.now c.requires (omega arith) e)

pub returns : goal.returns
returns c = let x = c.args in
    let i = c.sync_in-i.ensures in
    c.write_opened-2.ensures ∙ rw (at_chunk x.s x.carry.now x.chunk.now c.requires (omega arith) _ i.value (omega arith))
