-- `look::look` meets its contract: the rule that the front byte calls for.
use mathlib.Core.Path.{◌≡◌, sym, ◌∙◌}
use Rattle.window.specs.Window.{bytes}
use Prim.Native.Nat.{◌<◌}
use native.Mathlib.Omega.{arith}
use lib.ListN.{length, length-append}
use borrow.Author.Tests.{eq-eqb, ne_eqb}
use Rattle.window.specs.Pick.{pick}
use Rattle.look.proofs.Rules.{look_empty, look_noise, look_sync}
use Rattle.look.proofs.look.Goals as goal

pub returns-then-len-eq0 : goal.returns-then-len-eq0
returns-then-len-eq0 c = let x = c.args in
    let h : length (bytes x.window) ≡ 0 = simp length-append (omega arith) in
    sym (look_empty x.mode x.max x.cap (length x.window.carry.now) (bytes x.window) h)

pub returns-then-not-is_sync : goal.returns-then-not-is_sync
returns-then-not-is_sync c = let x = c.args in
    let W = bytes x.window in
    let h : 0 < length W = simp length-append (omega arith) in
    sym (look_noise x.mode x.max x.cap (length x.window.carry.now) W _ c.byte_at-x.ensures h (sym c.is_sync.ensures ∙ c.if-not-is_sync.true))

pub returns-then-x : goal.returns-then-x
unfolding pick
returns-then-x c = let x = c.args in
    let W = bytes x.window in
    let h : 0 < length W = simp length-append (omega arith) in
    c.at_ubx.ensures ∙ sym (look_sync x.mode x.max x.cap (length x.window.carry.now) W _ c.byte_at-x.ensures h (sym c.is_sync.ensures ∙ c.if-not-is_sync.false)
    ∙ rw (eq-eqb _ _ c.if-x.true))

pub returns-then-x-2 : goal.returns-then-x-2
unfolding pick
returns-then-x-2 c = let x = c.args in
    let W = bytes x.window in
    let h : 0 < length W = simp length-append (omega arith) in
    c.at_rtcm.ensures ∙ rw c.has_parity.ensures (sym (look_sync x.mode x.max x.cap (length x.window.carry.now) W _ c.byte_at-x.ensures h (sym c.is_sync.ensures ∙ c.if-not-is_sync.false)
    ∙ rw (ne_eqb _ _ c.if-x.false, eq-eqb _ _ c.if-x-2.true)))

pub returns : goal.returns
unfolding pick
returns c = let x = c.args in
    let W = bytes x.window in
    let h : 0 < length W = simp length-append (omega arith) in
    c.at_nmea.ensures ∙ sym (look_sync x.mode x.max x.cap (length x.window.carry.now) W _ c.byte_at-x.ensures h (sym c.is_sync.ensures ∙ c.if-not-is_sync.false)
    ∙ rw (ne_eqb _ _ c.if-x.false, ne_eqb _ _ c.if-x-2.false))
