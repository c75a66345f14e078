-- 01, "Opening": the sync bytes of a mode, and the first of them in a window; 02, Ticket 4: its setting.
use Rattle.std.specs.Prelude.{ℕ, zero, suc, Bool, false, ◌||◌, List, [], ◌∷◌, eqb}
use Rattle.window.specs.Pick.{pick}
use Rattle.window.specs.declared.Mode.{Mode, TheVariants.{One, Two, Three}}

-- whether RTCM frames are read with parity
abbrev pub has_parity : Mode → Bool
has_parity (One parity) = parity
has_parity (Two parity) = parity
has_parity (Three parity) = parity

-- the sync bytes that a mode has besides B5: none; D3; D3 and 24
abbrev pub is_more : Mode → ℕ → Bool
is_more (One parity) x = false
is_more (Two parity) x = eqb x 0xD3
is_more (Three parity) x = eqb x 0xD3 || eqb x 0x24

abbrev pub is_sync : Mode → ℕ → Bool
is_sync mode x = eqb x 0xB5 || is_more mode x

-- the place of the first byte that t tells, or the length where there is none
unfoldable pub first : (ℕ → Bool) → List ℕ → ℕ
first t [] = zero
first t (x ∷ xs) = pick (t x) zero (suc (first t xs))

abbrev pub first_sync : Mode → List ℕ → ℕ
first_sync mode xs = first (is_sync mode) xs
