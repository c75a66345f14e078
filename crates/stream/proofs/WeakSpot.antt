-- Mode two's weak spot without parity, for every frame and on the smallest streams, computed; and what a stray D3 does with parity.
use mathlib.Core.Path.{◌≡◌, refl}
use mathlib.Core.Bool.{Bool, true, false}
use mathlib.Core.List.{List, [], ◌∷◌}
use Prim.Native.Nat.{ℕ, ◌≤◌, ◌<◌}
use native.Mathlib.Omega.{arith}
use lib.ListN.{length, take}
use borrow.Author.Tests.{le-leb, lt-leb, ne_eqb}
use Rattle.sum.specs.Sum.{sum_on}
use Rattle.window.specs.declared.Mode.TheVariants.{One, Two}
use Rattle.window.specs.Pick.{pick}
use Rattle.claim.specs.declared.Kind.TheVariants.{Rtcm}
use Rattle.claim.specs.declared.Tale.TheVariants.{WrongParity}
use Rattle.claim.specs.declared.Verdict.TheVariants.{Wait, Tell, Hand}
use Rattle.look.specs.declared.Sight.TheVariants.{Say}
use Rattle.look.specs.Rules.{claim, look, look_ubx, look_rtcm}
use Rattle.look.specs.Moves.{judge}
use Rattle.look.proofs.Rules.{rtcm_claims}
use Rattle.stream.specs.Scan.{rtcm_frame, ubx_frame, ended, answered, scan_move, scan}
use Rattle.stream.specs.WeakSpot.{one_byte, three_bytes}
use Rattle.stream.proofs.Headed.{received, computed}

-- without parity a D3 before B5 62 waits until 354 bytes stand behind them, and then takes all
module _ (max : ℕ) (rest : List ℕ) where
  W : List ℕ
  W = 0xD3 ∷ 0xB5 ∷ 0x62 ∷ rest

  d3_claims : (parity : Bool) → look (Two parity) max W ≡ claim (Rtcm 354 parity)
  unfolding look pick W
  d3_claims parity = rtcm_claims parity W 0xB5 0x62 refl refl (omega arith)

  pub d3_takes : 354 ≤ length rest → scan_move (Two false) max (0xD3 ∷ 0xB5 ∷ 0x62 ∷ rest) ≡ Say (Hand (Rtcm 354 false))
  unfolding scan_move pick judge W
  d3_takes h = rw (d3_claims false, le-leb 357 (length W) (omega arith))

  pub d3_waits : length rest < 354 → scan_move (Two false) max (0xD3 ∷ 0xB5 ∷ 0x62 ∷ rest) ≡ Say (Wait 0)
  unfolding scan_move pick W
  d3_waits h = rw (d3_claims false, lt-leb 357 (length W) (omega arith))

  -- with parity it waits for 357, and takes nothing unless the parity is right
  pub d3_waits_parity : length rest < 357 → scan_move (Two true) max (0xD3 ∷ 0xB5 ∷ 0x62 ∷ rest) ≡ Say (Wait 0)
  unfolding scan_move pick W
  d3_waits_parity h = rw (d3_claims true, lt-leb 360 (length W) (omega arith))

  pub d3_wrong : 357 ≤ length rest → (received (0xD3 ∷ 0xB5 ∷ 0x62 ∷ rest) 354 ≡ computed (0xD3 ∷ 0xB5 ∷ 0x62 ∷ rest) 354 → ⊥)
      → scan_move (Two true) max (0xD3 ∷ 0xB5 ∷ 0x62 ∷ rest) ≡ Say (Tell (WrongParity (received (0xD3 ∷ 0xB5 ∷ 0x62 ∷ rest) 354) (computed (0xD3 ∷ 0xB5 ∷ 0x62 ∷ rest) 354)))
  unfolding scan_move pick judge W
  d3_wrong h wrong = rw (d3_claims true, le-leb 360 (length W) (omega arith), ne_eqb (received W 354) (computed W 354) wrong)

-- one stray byte: 357 bytes lose T in mode two without parity, 356 do not, and mode one hands it out
pub one_byte_loses : scan (Two false) 16 (one_byte 348) ≡ answered 0 (rtcm_frame (one_byte 348)) (ended 357 [])
unfolding scan scan_move look look_ubx look_rtcm judge sum_on pick
one_byte_loses = refl

pub one_byte_waits : scan (Two false) 16 (one_byte 347) ≡ ended 0 (one_byte 347)
unfolding scan scan_move look look_ubx look_rtcm judge sum_on pick
one_byte_waits = refl

pub one_byte_mode_one : scan (One false) 16 (one_byte 348) ≡ answered 1 (ubx_frame 0x0A 0x04 (0x0E ∷ 0x34 ∷ [])) (ended 357 [])
unfolding scan scan_move look look_ubx look_rtcm judge sum_on pick
one_byte_mode_one = refl

-- three: 11 bytes
pub three_bytes_lose : scan (Two false) 16 three_bytes ≡ answered 0 (rtcm_frame (take 4 three_bytes)) (ended 11 [])
unfolding scan scan_move look look_ubx look_rtcm judge sum_on pick
three_bytes_lose = refl

pub three_bytes_mode_one : scan (One false) 16 three_bytes ≡ answered 3 (ubx_frame 0x0A 0x04 (0x0E ∷ 0x34 ∷ [])) (ended 11 [])
unfolding scan scan_move look look_ubx look_rtcm judge sum_on pick
three_bytes_mode_one = refl
