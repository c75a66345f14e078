-- No stream smaller than those of WeakSpot loses a good frame to an RTCM frame in mode two without parity.
use mathlib.Core.Path.{◌≡◌, sym, ◌∙◌}
use mathlib.Core.Bool.{Bool, false}
use mathlib.Core.List.{List}
use Prim.Native.Nat.{ℕ, zero, suc, ◌+◌, ◌-◌, ◌*◌, ◌%◌, ◌≤◌, ◌<◌}
use native.Mathlib.Omega.{arith}
use lib.ListN.{length, get_or, drop, length-drop}
use lib.Seq.{get_or-drop, drop-drop}
use Rattle.window.specs.declared.Mode.TheVariants.{Two}
use Rattle.claim.specs.declared.Kind.TheVariants.{Rtcm}
use Rattle.claim.specs.declared.Verdict.TheVariants.{Hand}
use Rattle.claim.specs.Sizes.{around}
use Rattle.look.specs.declared.Sight.TheVariants.{Say}
use Rattle.stream.specs.Scan.{scan_move}
use Rattle.stream.specs.Interface.{GoodFrame}
use Rattle.stream.specs.WeakSpot.{NoSmallerLoss}
use Rattle.stream.proofs.Walks.{said_by, said_at}
use Rattle.stream.proofs.Modes.{steady_scan}
use Rattle.stream.proofs.Scans.{scan_walks}
use Rattle.stream.proofs.Framed.{whole_in}
use Rattle.stream.proofs.Headed.{Headed, scan_tells, rtcm_of}

-- where B5 62 stand j bytes into W, and 8 bytes at least from there on: an RTCM head at W's front reads them as its length, or has 3 bytes of its own
near : (j : ℕ) (W : List ℕ) (n : ℕ) → get_or W (j + 0) 0 ≡ 0xB5 → get_or W (j + 1) 0 ≡ 0x62 → j + 8 ≤ length W → n ≡ (256 * get_or W 1 0 + get_or W 2 0) % 1024 → n + 3 ≤ length W
    → 0 < j → (11 ≤ length W) × (j ≡ 1 → 357 ≤ length W)
near zero W n a b h e w some = absurd (omega arith)
near (suc zero) W n a b h e w some = let k : n ≡ 354 = omega arith in (omega arith, λ _. omega arith)
near (suc (suc zero)) W n a b h e w some = let k : 181 ≤ n = omega arith in (omega arith, λ q. absurd (omega arith))
near (suc (suc (suc j))) W n a b h e w some = (omega arith, λ q. absurd (omega arith))

module _ (max class id : ℕ) (payload W : List ℕ) (j : ℕ) (g : GoodFrame max (drop j W) class id payload) where
  byte_at : (i x : ℕ) → get_or (drop j W) i 0 ≡ x → get_or W (j + i) 0 ≡ x
  byte_at i x e = sym (get_or-drop j W i 0) ∙ e

  eight : 0 < j → j + 8 ≤ length W
  eight some =
      let h : 6 + (length payload + 2) ≤ length W - j = rw length-drop at (whole_in class id payload _ _ g.rest (drop j W) g.stands) in
      omega arith

  lost_in : 0 < j → (n : ℕ) (parity : Bool) → scan_move (Two false) max W ≡ Say (Hand (Rtcm n parity)) → (11 ≤ length W) × (j ≡ 1 → 357 ≤ length W)
  lost_in some n parity e =
      let head : Headed (Two false) W n parity = (rw e at (scan_tells (Two false) max W)).0 in
      let w : 0 + (n + around parity) ≤ length W = rw e at ((steady_scan (Two false) max tt).goes W (rw e)).1 in
      let short : 0 + (n + 3) ≤ length W = rw head.setting at w in
      near j W n (byte_at 0 0xB5 (rw g.stands)) (byte_at 1 0x62 (rw g.stands)) (eight some) head.counts (omega arith) some

pub no_smaller_loss : NoSmallerLoss
no_smaller_loss max stream p class id payload g f a b s before behind =
    let (k, at, m) = said_at (scan_move (Two false) max) (scan_walks (Two false) max tt stream).0 f a in
    let W = drop k stream in
    let r = rtcm_of W (scan_move (Two false) max W) f (said_by (0 + k) W (scan_move (Two false) max W) f m) b s in
    let on : k + (p - k) ≡ p = omega arith in
    let there : GoodFrame max (drop (p - k) W) class id payload = rw (drop-drop, on) g in
    let l = lost_in max class id payload W (p - k) there (omega arith) r.0 r.1 r.2 in
    let len : length W ≡ length stream - k = length-drop k stream in
    (omega (arith, l.0), λ q. omega (arith, l.1 (omega arith)))
