-- `look::at_ubx` meets its contract: a law of rule 2 for each way out.
use mathlib.Core.Path.{◌≡◌, sym, ◌∙◌}
use Rattle.window.specs.Window.{bytes}
use Prim.Native.Nat.{◌<◌, ◌≤◌}
use native.Mathlib.Omega.{arith}
use lib.ListN.{length, get_or, length-append}
use Rattle.look.proofs.Rules.{ubx_short, ubx_other, ubx_headless, ubx_over, ubx_claims}
use Rattle.look.proofs.at_ubx.Goals as goal

pub returns-then-w-lt-UBX_SYNC_SIZE : goal.returns-then-w-lt-UBX_SYNC_SIZE
returns-then-w-lt-UBX_SYNC_SIZE c = let x = c.args in
    let h : length (bytes x.window) < 2 = simp length-append (omega arith) in
    rw (ubx_short x.max (bytes x.window) h)

pub returns-then-byte_at-ne-UBX_SYNC_CHAR_2 : goal.returns-then-byte_at-ne-UBX_SYNC_CHAR_2
returns-then-byte_at-ne-UBX_SYNC_CHAR_2 c = let x = c.args in
    let h : 2 ≤ length (bytes x.window) = simp length-append (omega arith) in
    rw (ubx_other x.max (bytes x.window) h (λ e. c.if-byte_at-ne-UBX_SYNC_CHAR_2.true (c.byte_at.ensures ∙ e)))

pub returns-then-w-lt-UBX_HEADER_LEN : goal.returns-then-w-lt-UBX_HEADER_LEN
returns-then-w-lt-UBX_HEADER_LEN c = let x = c.args in
    let h : 2 ≤ length (bytes x.window) = simp length-append (omega arith) in
    let l : length (bytes x.window) < 6 = simp length-append (omega arith) in
    rw (ubx_headless x.max (bytes x.window) h (sym c.byte_at.ensures ∙ c.if-byte_at-ne-UBX_SYNC_CHAR_2.false) l)

pub returns-then-max-n : goal.returns-then-max-n
returns-then-max-n c = let x = c.args in
    let W = bytes x.window in
    let h : 6 ≤ length W = simp length-append (omega arith) in
    let p : get_or W 1 0 ≡ 0x62 = sym c.byte_at.ensures ∙ c.if-byte_at-ne-UBX_SYNC_CHAR_2.false in
    let l = rw (c.word-n.ensures, c.byte_at-3.ensures, c.byte_at-2.ensures) at c.if-max-n.true in
    rw (ubx_over x.max W h p l)

pub returns : goal.returns
returns c = let x = c.args in
    let W = bytes x.window in
    let h : 6 ≤ length W = simp length-append (omega arith) in
    let p : get_or W 1 0 ≡ 0x62 = sym c.byte_at.ensures ∙ c.if-byte_at-ne-UBX_SYNC_CHAR_2.false in
    let l = rw (c.word-n.ensures, c.byte_at-3.ensures, c.byte_at-2.ensures) at c.if-max-n.false in
    c.ubx_claimed.ensures ∙ rw (ubx_claims x.max W h p l, c.byte_at-5.ensures, c.byte_at-4.ensures, c.from.ensures, c.word-n.ensures, c.byte_at-3.ensures, c.byte_at-2.ensures)
