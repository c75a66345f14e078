-- 01, "The sum": Fletcher's two running bytes.
use Rattle.std.specs.Prelude.{ℕ, ◌+◌, ◌*◌, ◌%◌, List, [], ◌∷◌}
use Rattle.sum.specs.declared.Sums.{Sums}

-- a and b start at 0
abbrev pub zeros : Sums
zeros = record { a = 0; b = 0 }

-- for each byte, a = a + byte, b = b + a; both are kept modulo 256
abbrev pub add_byte : Sums → ℕ → Sums
add_byte s x = record { a = (s.a + x) % 256; b = (s.b + (s.a + x) % 256) % 256 }

unfoldable pub sum_on : Sums → List ℕ → Sums
sum_on s [] = s
sum_on s (x ∷ xs) = sum_on (add_byte s x) xs

abbrev pub sum_of : List ℕ → Sums
sum_of bytes = sum_on zeros bytes

-- two bytes as one number, low byte first: a + 256 × b
abbrev pub pair_of : ℕ → ℕ → ℕ
pair_of a b = a + 256 * b
