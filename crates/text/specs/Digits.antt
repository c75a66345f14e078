-- Numbers as text: decimal, and upper-case hexadecimal.
use Rattle.std.specs.Prelude.{ℕ, zero, suc, ◌+◌, ◌-◌, ◌*◌, ◌/◌, ◌%◌, List, [], ◌∷◌, ◌++◌, nat_lt, slice_index}
use Rattle.window.specs.Pick.{pick}
use Rattle.text.specs.Text.{ascii}

-- a number's decimal digits in at most so many places: a number below ten is one digit; of any other, those of the tenth of
-- it, then its last
unfoldable pub digits_in : ℕ → ℕ → List ℕ
digits_in zero n = []
digits_in (suc places) n = pick (nat_lt n 10) ((48 + n) ∷ []) (digits_in places (n / 10) ++ ((48 + n % 10) ∷ []))

-- a number of 64 bits; 20 places hold it
abbrev pub decimal : ℕ → List ℕ
decimal n = digits_in 20 n

-- digits read back
abbrev pub read_on : ℕ → List ℕ → ℕ
read_on n [] = n
read_on n (d ∷ ds) = read_on (10 * n + (d - 48)) ds

abbrev pub read : List ℕ → ℕ
read ds = read_on 0 ds

-- the digit of a number below sixteen
abbrev pub hex_digit : ℕ → ℕ
hex_digit d = slice_index (ascii "0123456789ABCDEF") d

-- a number's last digits, so many of them: a byte has two, a sum four, a parity six
unfoldable pub hex : ℕ → ℕ → List ℕ
hex zero n = []
hex (suc places) n = hex places (n / 16) ++ (hex_digit (n % 16) ∷ [])
