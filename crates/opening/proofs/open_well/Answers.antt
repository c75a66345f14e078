-- `opening::open_well` meets its contract: the search is over the window of the opened state.
use mathlib.Core.Path.{◌≡◌, sym, ◌∙◌}
use Prim.Native.Nat.{◌≤◌, ◌<◌}
use native.Mathlib.Nat.{zero-add}
use native.Mathlib.Omega.{arith}
use lib.ListN.{length}
use borrow.Author.Tests.{lt-ltb, le-ltb}
use Rattle.window.specs.Pick.{pick}
use Rattle.window.specs.Sync.{first_sync}
use Rattle.state.specs.Words.{window, width}
use Rattle.state.proofs.Window.{drain_zero}
use Rattle.opening.specs.Operations.{noted}
use Rattle.opening.proofs.Slices.{syncs_at_once}
use Rattle.opening.proofs.open_well.Goals as goal

pub returns-then-is_sync : goal.returns-then-is_sync
unfolding pick
returns-then-is_sync c = let x = c.args in
    let o = noted x.s (length x.chunk.now) in
    let z = syncs_at_once o x.carry.now x.chunk.now c.requires.sane c.if-s.true (sym c.is_sync.ensures ∙ c.if-is_sync.true) in
    let h : 0 < width o = omega arith in
    rw (z, lt-ltb 0 (width o) h, drain_zero o)

pub returns-then-i-s : goal.returns-then-i-s
unfolding pick
returns-then-i-s c = let x = c.args in
    let o = noted x.s (length x.chunk.now) in
    let i : c.find_sync-i.result ≡ first_sync x.s.mode (window o x.carry.now x.chunk.now) = c.find_sync-i.ensures.value ∙ rw (zero-add, c.window_of.ensures.carry_left, c.window_of.ensures.chunk_ahead) in
    let h : first_sync x.s.mode (window o x.carry.now x.chunk.now) < width o = rw (← i) (omega arith) in
    c.drained.ensures ∙ rw (lt-ltb _ _ h, i)

pub returns : goal.returns
unfolding pick
returns c = let x = c.args in
    let o = noted x.s (length x.chunk.now) in
    let i : c.find_sync-i.result ≡ first_sync x.s.mode (window o x.carry.now x.chunk.now) = c.find_sync-i.ensures.value ∙ rw (zero-add, c.window_of.ensures.carry_left, c.window_of.ensures.chunk_ahead) in
    let h : width o ≤ first_sync x.s.mode (window o x.carry.now x.chunk.now) = rw (← i) (omega arith) in
    rw (le-ltb _ _ h)
