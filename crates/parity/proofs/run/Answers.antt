-- `parity::run` meets its contract: what is left, run on from the parity so far, is the whole.
use mathlib.Core.Path.{sym, ap, ◌∙◌}
use Prim.Native.Nat.{ℕ}
use native.Mathlib.Omega.{arith}
use native.Mathlib.Numerals.{add-one}
use lib.ListN.{get_or}
use lib.Bits.{and_mask, mask_lt}
use Rattle.parity.specs.Parity.{parity_on}
use Rattle.parity.proofs.Laws.{next_lt, on_low, on_next, on_past, step}
use Rattle.parity.proofs.run.Goals as goal

pub loop-byte-init : goal.loop-byte-init
loop-byte-init c = let x = c.args in
    (mask_lt x.from 24, ap (λ (r : ℕ). parity_on r x.bytes.now) (and_mask x.from 24) ∙ on_low x.from x.bytes.now)

pub loop-byte-preserved : goal.loop-byte-preserved
loop-byte-preserved c = let at = c.loop-byte in
    let l = c.args.bytes.now in
    let x = get_or l at.byte-index 0 in
    let e = step at.crc x at.invariant.0 (c.type_inv.bytes at.byte-index).fits in (
      rw (c.requires, e) (next_lt at.crc x),
      rw (add-one, c.requires, e) (sym (on_next at.crc l at.byte-index c.loop-byte-test.true) ∙ at.invariant.1),
    )

pub returns : goal.returns
returns c = let at = c.loop-byte in
    sym (on_past at.crc c.args.bytes.now at.byte-index at.invariant.0 (omega arith)) ∙ at.invariant.1
