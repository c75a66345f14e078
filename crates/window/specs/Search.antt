-- What the searches' inner functions answer.
use Rattle.std.specs.Prelude.{◌≡◌, ◌⊎◌, ℕ, ◌+◌, ◌≤◌, Bool, ◌||◌, List, length, drop, eqb}
use Rattle.window.specs.Sync.{first}
use Rattle.window.specs.declared.Mode.{Mode, TheVariants.{One, Two, Three}}
use Rattle.window.specs.declared.Needle.{Needle, TheVariants.{Ubx, UbxRtcm, UbxRtcmNmea, Cr}}

-- whether a byte is b
abbrev pub is : ℕ → ℕ → Bool
is b x = eqb x b

-- the sync bytes of a mode, as what a search looks for
abbrev pub syncs_of : Mode → Needle
syncs_of (One parity) = Ubx
syncs_of (Two parity) = UbxRtcm
syncs_of (Three parity) = UbxRtcmNmea

-- whether a search looks for a byte
abbrev pub told : Needle → ℕ → Bool
told Ubx x = eqb x 0xB5
told UbxRtcm x = eqb x 0xB5 || eqb x 0xD3
told UbxRtcmNmea x = eqb x 0xB5 || eqb x 0xD3 || eqb x 0x24
told Cr x = eqb x 0x0D

-- from i on to r no byte is told
pub record PastNone (t : ℕ → Bool) (xs : List ℕ) (i r : ℕ) : Type 0 where
  pub low : i ≤ r
  pub high : r ≤ length xs
  pub same : i + first t (drop i xs) ≡ r + first t (drop r xs)

-- and r is n, or there the byte is told
pub record StopsBy (t : ℕ → Bool) (xs : List ℕ) (i n r : ℕ) : Type 0 where
  pub past : PastNone t xs i r
  pub within : r ≤ n
  pub there : (r ≡ n) ⊎ (first t (drop r xs) ≡ 0)
