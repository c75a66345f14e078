-- The round of all dates.
use mathlib.Core.Path.{◌≡◌, refl, sym, ap, ◌∙◌}
use mathlib.Core.Bool.{Bool, true, false}
use mathlib.Core.List.{List, [], ◌∷◌}
use Prim.Native.Nat.{ℕ, zero, suc, ◌+◌, ◌-◌, ◌≤◌}
use native.Mathlib.Omega.{arith}
use native.Mathlib.Numerals.{add-one}
use lib.ListN.{get_or, take}
use borrow.Author.Tests.{ltb-false, lt-ltb, le-ltb}
use Rattle.window.specs.Pick.{pick}
use Rattle.window.proofs.Pick.{by_pick, pick_true, pick_false}
use Rattle.calendar.specs.Calendar.{leap, year_length, month_lengths, days_in, days_of_years, days_before_year, total, days_before_month, day_number}
use Rattle.calendar.proofs.Calendar.{days_bound}
use Rattle.calendar.specs.Days.{Date, date, number_of, Real, next, after, NextIsOneMore, EveryDateIsCounted, SixtyIsTheNextMinute, known_days, as_known}

pub as_known_is : as_known known_days ≡ true
unfolding day_number days_of_years leap pick
as_known_is = refl

-- ---- the days before the next month and the next year

total_next : (l : List ℕ) (k : ℕ) → total (take (suc k) l) ≡ total (take k l) + get_or l k 0
total_next [] zero = refl
total_next [] (suc k) = refl
total_next (x ∷ l) zero = omega arith
total_next (x ∷ l) (suc k) = ap (λ (n : ℕ). x + n) (total_next l k) ∙ omega arith

next_month : (y m : ℕ) → 1 ≤ m → days_before_month y (m + 1) ≡ days_before_month y m + days_in y m
next_month y m h =
    let e : m + 1 - 1 ≡ suc (m - 1) = omega arith in
    rw e (total_next (month_lengths (leap y)) (m - 1))

whole_year : (l : Bool) → pick l 366 365 ≡ total (take 11 (month_lengths l)) + 31
unfolding pick
whole_year true = refl
whole_year false = refl

last_month : (l : Bool) → get_or (month_lengths l) 11 0 ≡ 31
last_month l = refl

next_year : (y : ℕ) → 1970 ≤ y → days_before_year (y + 1) ≡ days_before_year y + year_length y
unfolding days_of_years
next_year y h =
    let e : y + 1 - 1970 ≡ suc (y - 1970) = omega arith in
    let f : 1970 + (y - 1970) ≡ y = omega arith in
    rw e (ap (λ (n : ℕ). days_before_year y + year_length n) f)

year_end : (y m : ℕ) → m ≡ 12 → days_before_month y m + days_in y m ≡ year_length y
year_end y m e = rw e (sym (whole_year (leap y)))

pub next_is_one_more : NextIsOneMore
unfolding next day_number
next_is_one_more d r =
    by_pick (λ x. number_of x ≡ suc (number_of d))
    (λ _. omega (arith, r.day))
    (λ e. let last = ltb-false d.day (days_in d.year d.month) e in
    by_pick (λ x. number_of x ≡ suc (number_of d))
    (λ _. omega (arith, next_month d.year d.month r.month.0, r.day, last))
    (λ f. omega (arith, next_year d.year r.year, year_end d.year d.month (omega (arith, ltb-false d.month 12 f, r.month)), r.day, last)))

-- ---- every date but the first is the next of another

data DayBefore (d : Date) : Type 0 where
  none : d ≡ date 1970 1 1 → DayBefore d
  some : (p : Date) → Real p → next p ≡ d → DayBefore d

in_month : (y m k : ℕ) → Real (date y m (suc (suc k))) → next (date y m (suc k)) ≡ date y m (suc (suc k))
unfolding next
in_month y m k r = rw (lt-ltb (suc k) (days_in y m) (omega (arith, r.day.1)), pick_true, add-one)

first_of_month : (y m : ℕ) → suc (suc m) ≤ 12 → next (date y (suc m) (days_in y (suc m))) ≡ date y (suc (suc m)) 1
unfolding next
first_of_month y m h = rw (le-ltb (days_in y (suc m)) (days_in y (suc m)) (omega arith), pick_false, lt-ltb (suc m) 12 (omega arith), pick_true, add-one)

first_of_year : (y : ℕ) → next (date y 12 31) ≡ date (suc y) 1 1
unfolding next pick
first_of_year y = rw add-one

new_year : (n y : ℕ) → y ≡ 1970 + n → DayBefore (date y 1 1)
new_year zero y e = none (rw e)
new_year (suc n) y e =
    some (date (1970 + n) 12 31) (record { year = omega arith; month = (omega arith, omega arith); day = (omega arith, omega arith) })
    (first_of_year (1970 + n) ∙ ap (λ (x : ℕ). date x 1 1) (omega arith))

day_before : (y m k : ℕ) → Real (date y m k) → DayBefore (date y m k)
day_before y m zero r = absurd (omega (arith, r.day.0))
day_before y zero (suc zero) r = absurd (omega (arith, r.month.0))
day_before y (suc zero) (suc zero) r = new_year (y - 1970) y (omega (arith, r.year))
day_before y (suc (suc m)) (suc zero) r =
    let b = days_bound y (suc m) (omega arith) (omega (arith, r.month.1)) in
    some (date y (suc m) (days_in y (suc m)))
    (record { year = r.year; month = (omega arith, omega (arith, r.month.1)); day = (omega (arith, b.0), omega arith) })
    (first_of_month y m r.month.1)
day_before y m (suc (suc k)) r =
    some (date y m (suc k)) (record { year = r.year; month = r.month; day = (omega arith, omega (arith, r.day.1)) }) (in_month y m k r)

first_day : number_of (date 1970 1 1) ≡ 0
unfolding day_number days_of_years
first_day = refl

at_first : (d : Date) → number_of d ≡ 0 → DayBefore d → date 1970 1 1 ≡ d
at_first d e (none q) = sym q
at_first d e (some p r q) = absurd (omega (arith, next_is_one_more p r, ap number_of q))

at_next : (n : ℕ) (d : Date) → number_of d ≡ suc n → DayBefore d → ((p : Date) → Real p → number_of p ≡ n → after n ≡ p) → next (after n) ≡ d
at_next n d e (none q) f = absurd (omega (arith, first_day, ap number_of q))
at_next n d e (some p r q) f = ap next (f p r (omega (arith, next_is_one_more p r, ap number_of q))) ∙ q

counted : (n : ℕ) (d : Date) → Real d → number_of d ≡ n → after n ≡ d
unfolding after
counted zero d r e = at_first d e (day_before d.year d.month d.day r)
counted (suc n) d r e = at_next n d e (day_before d.year d.month d.day r) (counted n)

pub every_date_is_counted : EveryDateIsCounted
every_date_is_counted d r = counted (number_of d) d r refl

pub sixty_is_the_next_minute : SixtyIsTheNextMinute
sixty_is_the_next_minute days hour minute = omega arith
