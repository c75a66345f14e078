-- 02, Ticket 1: the ranges of a date and of a time of day.
use Rattle.std.specs.Prelude.{ℕ, Bool, ◌&&◌, leb}
use Rattle.calendar.specs.Calendar.{days_in}

unfoldable pub within : ℕ → ℕ → ℕ → Bool
within low high x = leb low x && leb x high

-- year 1999 to 2099, a real date
unfoldable pub is_date : ℕ → ℕ → ℕ → Bool
is_date year month day = within 1999 2099 year && (within 1 12 month && within 1 (days_in year month) day)

-- hour to 23, minute to 59, second to 60
unfoldable pub is_time : ℕ → ℕ → ℕ → Bool
is_time hour minute second = within 0 23 hour && (within 0 59 minute && within 0 60 second)
