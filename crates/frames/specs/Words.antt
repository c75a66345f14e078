-- What an argument says: a number in decimal digits, a mode, or the setting parity.
use Rattle.std.specs.Prelude.{ℕ, ◌+◌, ◌-◌, ◌*◌, Bool, true, false, List, [], ◌∷◌, ltb, eqb, Option, Some, None}
use Rattle.window.specs.declared.Mode.{Mode, TheVariants.{One, Two, Three}}
use Rattle.window.specs.Pick.{pick}
use Rattle.text.specs.Text.{ascii}

-- one more digit, 0 to 9, to a number that stays within 65,535
unfoldable pub next_of : ℕ → ℕ → Option ℕ
next_of n d = pick (ltb d 48) None (pick (ltb 57 d) None (pick (ltb 65535 (10 * n + (d - 48))) None (Some (10 * n + (d - 48)))))

abbrev pub digit_to : Option ℕ → ℕ → Option ℕ
digit_to None d = None
digit_to (Some n) d = next_of n d

abbrev pub digits_to : Option ℕ → List ℕ → Option ℕ
digits_to r [] = r
digits_to r (d ∷ ds) = digits_to (digit_to r d) ds

-- all digits, and one at least
abbrev pub number_of : List ℕ → Option ℕ
number_of [] = None
number_of (d ∷ ds) = digits_to (Some 0) (d ∷ ds)

-- a mode, and whether RTCM frames are read with parity
abbrev pub mode_of : Option ℕ → Bool → Option Mode
mode_of None parity = None
mode_of (Some n) parity = pick (eqb n 1) (Some (One parity)) (pick (eqb n 2) (Some (Two parity)) (pick (eqb n 3) (Some (Three parity)) None))

-- which argument MAX is: the word parity stands before it
abbrev pub max_at : Bool → ℕ
max_at true = 3
max_at false = 2

abbrev pub parity_word : List ℕ
parity_word = ascii "parity"
