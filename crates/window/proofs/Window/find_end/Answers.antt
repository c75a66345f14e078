-- `window::Window::find_end` meets its contract: no end mark begins before i, and where i is within the window a CR stands there.
use Rattle.std.proofs.Common.{sym, ◌∙◌, suc, ◌<◌, length, length-append, add-one, arith}
use borrow.Author.Tests.{eq-eqb, ne_eqb}
use Rattle.window.specs.Search.{is}
use Rattle.window.specs.Window.{bytes}
use Rattle.window.proofs.Laws.{first_at, mark_on, mark_next, mark_here, mark_end}
use Rattle.window.proofs.Window.find_end.Goals as goal

pub loop-i-init : goal.loop-i-init
loop-i-init c =
    let W = bytes c.args.self in
    let e = c.find-i.ensures.value in
    record { within = c.find-i.ensures.upper_bound; none_before = mark_on W 0 _ e; cr = first_at (is 0x0D) W 0 _ e }

pub loop-i-preserved : goal.loop-i-preserved
loop-i-preserved c =
    let W = bytes c.args.self in
    let i = c.loop-i.i in
    let h : suc i < length W = simp length-append (omega arith) in
    let n = rw (c.byte_at.ensures, add-one) at (ne_eqb _ _ c.if-byte_at-eq-NMEA_END_CHAR_2.false) in
    let e = rw add-one at c.find-i-in-loop-i.ensures.value in
    record {
      within = c.find-i-in-loop-i.ensures.upper_bound;
      none_before = c.loop-i.invariant.none_before ∙ mark_next W i h n ∙ mark_on W (suc i) _ e;
      cr = first_at (is 0x0D) W (suc i) _ e;
    }

pub returns-then-w-i : goal.returns-then-w-i
returns-then-w-i c =
    let W = bytes c.args.self in
    sym (c.loop-i.invariant.none_before ∙ mark_end W c.loop-i.i (simp length-append (omega arith)))

pub returns-then-byte_at-eq-NMEA_END_CHAR_2 : goal.returns-then-byte_at-eq-NMEA_END_CHAR_2
returns-then-byte_at-eq-NMEA_END_CHAR_2 c =
    let W = bytes c.args.self in
    let i = c.loop-i.i in
    let h : suc i < length W = simp length-append (omega arith) in
    let n = rw (c.byte_at.ensures, add-one) at (eq-eqb _ _ c.if-byte_at-eq-NMEA_END_CHAR_2.true) in
    sym (c.loop-i.invariant.none_before ∙ mark_here W i h (c.loop-i.invariant.cr (omega arith)) n)
