-- The table's rule, carried to each entry.
use mathlib.Core.Path.{◌≡◌, ◌∙◌}
use mathlib.Core.List.{[], ◌∷◌}
use Prim.Native.Nat.{ℕ, zero, suc, ◌+◌, ◌<◌}
use native.Mathlib.Nat.{add-zero, zero-add, add-suc, suc-add, le_of_suc-le-suc, not-suc-le-zero}
use lib.ListN.{get_or}
use Rattle.parity.specs.Parity.{parity_of, remainders_from, remainders}

at : (i n k : ℕ) → k < n → get_or (remainders_from i n) k 0 ≡ parity_of ((i + k) ∷ [])
unfolding remainders_from
at i zero k h = absurd (not-suc-le-zero h)
at i (suc n) zero h = rw (add-zero i)
at i (suc n) (suc k) h = at (suc i) n k (le_of_suc-le-suc h) ∙ rw (suc-add i k, add-suc i k)

pub entry : (i : ℕ) → i < 256 → get_or remainders i 0 ≡ parity_of (i ∷ [])
entry i h = at 0 256 i h ∙ rw (zero-add i)
