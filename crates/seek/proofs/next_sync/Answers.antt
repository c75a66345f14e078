-- `seek::next_sync` meets its contract: a sync byte behind the bytes that are passed is the first there; else one that stands right behind
-- that is.
use mathlib.Core.Path.{◌≡◌, sym, ◌∙◌}
use mathlib.Core.Bool.{true, false}
use Prim.Native.Nat.{suc, ◌+◌, ◌<◌}
use native.Mathlib.Omega.{arith}
use lib.ListN.{length, length-append, get_or}
use Rattle.window.specs.Sync.{is_sync}
use Rattle.window.specs.Window.{bytes}
use Rattle.window.proofs.Laws.{first_here, first_next}
use Rattle.seek.proofs.OneSide.{side_byte, side_within}
use Rattle.seek.proofs.next_sync.Goals as goal

pub returns-then-is_sync-clause-value : goal.returns-then-is_sync-clause-value
returns-then-is_sync-clause-value c = let x = c.args in let a = x.window.carry.now in let b = x.window.chunk.now in
    let W = bytes x.window in
    let end = side_within a b x.s.now x.k c.requires.side (omega arith) in
    let within : x.k + x.n < length W = omega (arith, c.if-n-s.true, end) in
    let byte = side_byte a b x.s.now x.k x.n c.requires.side (omega arith) (omega (arith, c.if-n-s.true)) in
    let here : is_sync x.mode (get_or W (x.k + x.n) 0) ≡ true = rw byte at (sym c.is_sync.ensures ∙ c.if-is_sync.true) in
    rw (first_here (is_sync x.mode) W (x.k + x.n) within here) (omega arith)

pub returns-then-is_sync-2-clause-value : goal.returns-then-is_sync-2-clause-value
returns-then-is_sync-2-clause-value c = let x = c.args in let a = x.window.carry.now in let b = x.window.chunk.now in
    let W = bytes x.window in
    let end = side_within a b x.s.now x.k c.requires.side (omega arith) in
    let within : suc (x.k + x.n) < length W = omega (arith, c.if-n-s.true, end) in
    let one = side_byte a b x.s.now x.k x.n c.requires.side (omega arith) (omega (arith, c.if-n-s.true)) in
    let two = side_byte a b x.s.now x.k (x.n + 1) c.requires.side (omega arith) (omega (arith, c.if-n-s.true)) in
    let next : x.k + (x.n + 1) ≡ suc (x.k + x.n) = omega arith in
    let before : is_sync x.mode (get_or W (x.k + x.n) 0) ≡ false = rw one at (sym c.is_sync.ensures ∙ c.if-is_sync.false) in
    let here : is_sync x.mode (get_or W (suc (x.k + x.n)) 0) ≡ true = rw (two, next) at (sym c.is_sync-then-n-s.ensures ∙ c.if-is_sync-2.true) in
    rw (first_next (is_sync x.mode) W (x.k + x.n) (omega arith) before, first_here (is_sync x.mode) W (suc (x.k + x.n)) within here) (omega arith)

pub returns-then-is_sync-2-clause-upper_bound : goal.returns-then-is_sync-2-clause-upper_bound
returns-then-is_sync-2-clause-upper_bound c = let x = c.args in
    let end = rw length-append at (side_within x.window.carry.now x.window.chunk.now x.s.now x.k c.requires.side (omega arith)) in
    omega (arith, c.if-n-s.true, end)
