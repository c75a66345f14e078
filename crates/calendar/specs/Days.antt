-- The round of all dates: each day of the calendar, and the next; and the second after second 59.
use Rattle.std.specs.Prelude.{◌≡◌, ℕ, zero, suc, ◌+◌, ◌≤◌, Bool, true, ◌&&◌, List, [], ◌∷◌, ltb, eqb}
use Rattle.window.specs.Pick.{pick}
use Rattle.calendar.specs.Calendar.{days_in, day_number, seconds_at}

pub record Date : Type 0 where
  pub year : ℕ
  pub month : ℕ
  pub day : ℕ

abbrev pub date : ℕ → ℕ → ℕ → Date
date year month day = record { year = year; month = month; day = day }

abbrev pub number_of : Date → ℕ
number_of d = day_number d.year d.month d.day

-- a date of the calendar, from 1970 on
pub record Real (d : Date) : Type 0 where
  pub year : 1970 ≤ d.year
  pub month : (1 ≤ d.month) × (d.month ≤ 12)
  pub day : (1 ≤ d.day) × (d.day ≤ days_in d.year d.month)

-- the month's next day; after its last, the first of the next month; after the year's last, the first of the next year
unfoldable pub next : Date → Date
next d =
    pick (ltb d.day (days_in d.year d.month)) (date d.year d.month (d.day + 1))
    (pick (ltb d.month 12) (date d.year (d.month + 1) 1)
    (date (d.year + 1) 1 1))

-- n days after 1970-01-01
unfoldable pub after : ℕ → Date
after zero = date 1970 1 1
after (suc n) = next (after n)

-- each date has the number one higher than that of the day before
abbrev pub NextIsOneMore : Type 0
NextIsOneMore = (d : Date) → Real d → number_of (next d) ≡ suc (number_of d)

-- and a date's number is how many days after 1970-01-01 it is
abbrev pub EveryDateIsCounted : Type 0
EveryDateIsCounted = (d : Date) → Real d → after (number_of d) ≡ d

-- second 60 counts as the next minute's 0
abbrev pub SixtyIsTheNextMinute : Type 0
SixtyIsTheNextMinute = (days hour minute : ℕ) → seconds_at days hour minute 60 ≡ seconds_at days hour (minute + 1) 0

-- some days' numbers from elsewhere
pub record Known : Type 0 where
  pub of : Date
  pub number : ℕ

abbrev pub known : ℕ → ℕ → ℕ → ℕ → Known
known year month day number = record { of = date year month day; number = number }

abbrev pub known_days : List Known
known_days =
    known 1970 1 1 0
    ∷ known 1972 2 29 789
    ∷ known 1999 1 1 10592
    ∷ known 2000 2 29 11016
    ∷ known 2000 3 1 11017
    ∷ known 2024 2 29 19782
    ∷ known 2099 12 31 47481
    ∷ known 2100 3 1 47541
    ∷ []

abbrev pub as_known : List Known → Bool
as_known [] = true
as_known (k ∷ ks) = eqb (number_of k.of) k.number && as_known ks
