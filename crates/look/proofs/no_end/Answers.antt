-- `look::no_end` meets its contract: a law of rule 4 for each way out.
use Rattle.window.specs.Window.{bytes}
use Prim.Native.Nat.{◌<◌, ◌≤◌}
use native.Mathlib.Omega.{arith}
use lib.ListN.{length, length-append}
use Rattle.look.proofs.Rules.{end_later, end_full, end_keep}
use Rattle.look.proofs.no_end.Goals as goal

pub returns-then-find_sync-w : goal.returns-then-find_sync-w
returns-then-find_sync-w c = let x = c.args in
    let W = bytes x.window in
    let h : c.find_sync.result < length W = simp length-append (omega arith) in
    rw (end_later x.mode W _ c.find_sync.ensures.value h)

pub returns-then-w-gt-NMEA_MAX_SENTENCE_LENGTH : goal.returns-then-w-gt-NMEA_MAX_SENTENCE_LENGTH
returns-then-w-gt-NMEA_MAX_SENTENCE_LENGTH c = let x = c.args in
    let W = bytes x.window in
    let h : length W ≤ c.find_sync.result = simp length-append (omega arith) in
    let l : 82 < length W = simp length-append (omega arith) in
    rw (end_full x.mode W _ c.find_sync.ensures.value h l, length-append, c.len-w.ensures)

pub returns : goal.returns
returns c = let x = c.args in
    let W = bytes x.window in
    let h : length W ≤ c.find_sync.result = simp length-append (omega arith) in
    let l : length W ≤ 82 = simp length-append (omega arith) in
    rw (end_keep x.mode W _ c.find_sync.ensures.value h l)
