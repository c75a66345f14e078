-- Laws of the sum: one byte more, none left, and two parts joined.
use Rattle.std.proofs.Common.{◌≡◌, ℕ, suc, ◌<◌, ◌≤◌, List, [], ◌∷◌, ◌++◌, length, get_or, drop, refl, drop_of_length-le, drop-cons}
use Rattle.sum.specs.declared.Sums.{Sums}
use Rattle.sum.specs.Sum.{add_byte, sum_on}

pub sum_next : (t : Sums) (l : List ℕ) (i : ℕ) → i < length l → sum_on t (drop i l) ≡ sum_on (add_byte t (get_or l i 0)) (drop (suc i) l)
unfolding sum_on
sum_next t l i h = rw (drop-cons l i 0 h)

pub sum_end : (t : Sums) (l : List ℕ) (i : ℕ) → length l ≤ i → sum_on t (drop i l) ≡ t
unfolding sum_on
sum_end t l i h = rw (drop_of_length-le l h)

pub sum_append : (t : Sums) (a b : List ℕ) → sum_on t (a ++ b) ≡ sum_on (sum_on t a) b
unfolding sum_on
sum_append t [] b = refl
sum_append t (x ∷ a) b = sum_append (add_byte t x) a b
