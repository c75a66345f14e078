-- `look::at_rtcm` meets its contract: a law of rule 3 for each way out.
use mathlib.Core.Path.{◌≡◌, sym, ap, ◌∙◌}
use mathlib.Core.Bool.{true, false}
use Rattle.window.specs.Window.{bytes}
use Prim.Native.Nat.{◌+◌, ◌<◌, ◌≤◌}
use native.Mathlib.Omega.{arith}
use lib.ListN.{length, length-append}
use Rattle.claim.specs.declared.Kind.TheVariants.{Rtcm}
use Rattle.claim.specs.Sizes.{around}
use Rattle.claim.specs.Verdicts.{can_hand}
use Rattle.look.specs.declared.Sight.TheVariants.{Say}
use Rattle.look.specs.Rules.{claim, look_rtcm}
use Rattle.look.proofs.Rules.{hand_whole, rtcm_short, rtcm_claims, claim_fits, claim_lacks}
use Rattle.look.proofs.at_rtcm.Goals as goal

pub returns-then-w-lt-RTCM_HEADER_SIZE : goal.returns-then-w-lt-RTCM_HEADER_SIZE
returns-then-w-lt-RTCM_HEADER_SIZE c = let x = c.args in
    let h : length (bytes x.window) < 3 = simp length-append (omega arith) in
    rw (rtcm_short x.parity (bytes x.window) h)

pub rtcm_judged-requires : goal.rtcm_judged-requires
rtcm_judged-requires c = let x = c.args in
    let t : can_hand x.cap (length x.window.carry.now) (length x.window.carry.now + length x.window.chunk.now) 0 (c.rtcm_length-n.result + around x.parity) ≡ true = rw (← c.around.ensures.value, ← c.len-w.ensures) (sym c.can_hand.ensures ∙ c.if-can_hand.true) in
    omega (arith, hand_whole x.cap (length x.window.carry.now) (length x.window.carry.now + length x.window.chunk.now) 0 (c.rtcm_length-n.result + around x.parity) t)

pub returns-then-can_hand : goal.returns-then-can_hand
returns-then-can_hand c = let x = c.args in
    let W = bytes x.window in
    let h : 3 ≤ length W = simp length-append (omega arith) in
    let n = c.rtcm_length-n.result in
    let e : look_rtcm x.parity W ≡ claim (Rtcm n x.parity) = rtcm_claims x.parity W c.byte_at.result c.byte_at-2.result c.byte_at.ensures c.byte_at-2.ensures h ∙ rw (← c.rtcm_length-n.ensures) in
    let t : can_hand x.cap (length x.window.carry.now) (length x.window.carry.now + length x.window.chunk.now) 0 (n + around x.parity) ≡ true = rw (← c.around.ensures.value, ← c.len-w.ensures) (sym c.can_hand.ensures ∙ c.if-can_hand.true) in
    rw e (sym (claim_fits x.cap x.window.carry.now x.window.chunk.now (Rtcm n x.parity) t ∙ ap Say (sym c.rtcm_judged.ensures)))

pub returns : goal.returns
returns c = let x = c.args in
    let W = bytes x.window in
    let h : 3 ≤ length W = simp length-append (omega arith) in
    let n = c.rtcm_length-n.result in
    let e : look_rtcm x.parity W ≡ claim (Rtcm n x.parity) = rtcm_claims x.parity W c.byte_at.result c.byte_at-2.result c.byte_at.ensures c.byte_at-2.ensures h ∙ rw (← c.rtcm_length-n.ensures) in
    let t : can_hand x.cap (length x.window.carry.now) (length x.window.carry.now + length x.window.chunk.now) 0 (n + around x.parity) ≡ false = rw (← c.around.ensures.value, ← c.len-w.ensures) (sym c.can_hand.ensures ∙ c.if-can_hand.false) in
    rw e (ap Say (c.lacks.ensures ∙ rw (c.around.ensures.value, c.len-w.ensures)) ∙ sym (claim_lacks x.cap x.window.carry.now x.window.chunk.now (Rtcm n x.parity) t))
