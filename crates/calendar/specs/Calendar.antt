-- The Gregorian calendar: the number of a day, and of a second, counted from 1970-01-01.
use Rattle.std.specs.Prelude.{ℕ, zero, suc, ◌+◌, ◌-◌, ◌*◌, ◌%◌, Bool, true, false, List, [], ◌∷◌, get_or, take, eqb}
use Rattle.window.specs.Pick.{pick}

-- a year that 400 divides is a leap year; else one that 100 divides is none; else one that 4 divides is one
unfoldable pub leap : ℕ → Bool
leap year =
    pick (eqb (year % 400) 0) true
    (pick (eqb (year % 100) 0) false
    (eqb (year % 4) 0))

abbrev pub year_length : ℕ → ℕ
year_length year = pick (leap year) 366 365

-- January to December
abbrev pub month_lengths : Bool → List ℕ
month_lengths leap = 31 ∷ pick leap 29 28 ∷ 31 ∷ 30 ∷ 31 ∷ 30 ∷ 31 ∷ 31 ∷ 30 ∷ 31 ∷ 30 ∷ 31 ∷ []

abbrev pub days_in : ℕ → ℕ → ℕ
days_in year month = get_or (month_lengths (leap year)) (month - 1) 0

-- the first n years from 1970 on
unfoldable pub days_of_years : ℕ → ℕ
days_of_years zero = 0
days_of_years (suc n) = days_of_years n + year_length (1970 + n)

abbrev pub days_before_year : ℕ → ℕ
days_before_year year = days_of_years (year - 1970)

abbrev pub total : List ℕ → ℕ
total [] = 0
total (x ∷ xs) = x + total xs

abbrev pub days_before_month : ℕ → ℕ → ℕ
days_before_month year month = total (take (month - 1) (month_lengths (leap year)))

-- days since 1970-01-01, which is 0
unfoldable pub day_number : ℕ → ℕ → ℕ → ℕ
day_number year month day = days_before_year year + days_before_month year month + (day - 1)

-- whole seconds since 1970; second 60 counts as the next minute's 0
abbrev pub seconds_at : ℕ → ℕ → ℕ → ℕ → ℕ
seconds_at days hour minute second = ((days * 24 + hour) * 60 + minute) * 60 + second
