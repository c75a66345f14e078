-- `look::at_nmea` meets its contract: rule 4, by the end mark found.
use mathlib.Core.Path.{sym, ◌∙◌}
use Rattle.window.specs.Window.{bytes}
use Prim.Native.Nat.{◌<◌, ◌≤◌}
use native.Mathlib.Omega.{arith}
use lib.ListN.{length, length-append}
use Rattle.std.specs.Prelude.{Some, None}
use Rattle.window.proofs.Laws.{mark_within}
use Rattle.look.proofs.Rules.{nmea_short, nmea_long}
use Rattle.look.proofs.at_nmea.Goals as goal

pub returns-then-w-lt-NMEA_MIN_BUFFER_SIZE : goal.returns-then-w-lt-NMEA_MIN_BUFFER_SIZE
returns-then-w-lt-NMEA_MIN_BUFFER_SIZE c = let x = c.args in
    let h : length (bytes x.window) < 8 = simp length-append (omega arith) in
    rw (nmea_short x.mode (bytes x.window) h)

pub sentence_claimed-requires : goal.sentence_claimed-requires
sentence_claimed-requires c = let x = c.args in
    omega (arith, simp length-append at (mark_within 0 (bytes x.window) c.in-Some.i (sym c.find_end.ensures ∙ c.in-Some.is)))

pub returns-in-Some : goal.returns-in-Some
returns-in-Some c = let x = c.args in
    let W = bytes x.window in
    let h : 8 ≤ length W = simp length-append (omega arith) in
    c.sentence_claimed.ensures ∙ rw (nmea_long x.mode W (Some c.in-Some.i) (sym c.in-Some.is ∙ c.find_end.ensures) h)

pub returns-in-None : goal.returns-in-None
returns-in-None c = let x = c.args in
    let W = bytes x.window in
    let h : 8 ≤ length W = simp length-append (omega arith) in
    c.no_end.ensures ∙ rw (nmea_long x.mode W None (sym c.in-None.is ∙ c.find_end.ensures) h)
