-- What the tests of a date and of a time show.
use mathlib.Core.Path.{◌≡◌}
use mathlib.Core.Bool.{true}
use Prim.Native.Nat.{ℕ, ◌-◌, ◌≤◌, ◌<◌}
use native.Mathlib.Omega.{arith}
use borrow.Author.Tests.{leb-true}
use Rattle.std.proofs.lemmas.Bool.{and_parts}
use Rattle.calendar.specs.Calendar.{day_number}
use Rattle.calendar.specs.Ranges.{within, is_date, is_time}
use Rattle.calendar.proofs.Calendar.{days_bound, years_bound, months_bound}

pub is_within : (low high x : ℕ) → within low high x ≡ true → (low ≤ x) × (x ≤ high)
unfolding within
is_within low high x e = let p = and_parts _ _ e in (leb-true low x p.0, leb-true x high p.1)

-- what a date that passes is, and a time
pub record Dated (y m d : ℕ) : Type 0 where
  pub year : (1999 ≤ y) × (y ≤ 2099)
  pub month : (1 ≤ m) × (m ≤ 12)
  pub day : (1 ≤ d) × (d ≤ 31)

pub dated : (year month day : ℕ) → is_date year month day ≡ true → Dated year month day
unfolding is_date
dated year month day e =
    let p = and_parts _ _ e in
    let q = and_parts _ _ p.1 in
    let m = is_within 1 12 month q.0 in
    let d = is_within 1 _ day q.1 in
    record { year = is_within 1999 2099 year p.0; month = m; day = (d.0, omega (arith, (days_bound year month m.0 m.1).1)) }

pub record Clocked (h m s : ℕ) : Type 0 where
  pub hour : h ≤ 23
  pub minute : m ≤ 59
  pub second : s ≤ 60

pub clocked : (hour minute second : ℕ) → is_time hour minute second ≡ true → Clocked hour minute second
unfolding is_time
clocked hour minute second e =
    let p = and_parts _ _ e in
    let q = and_parts _ _ p.1 in
    record {
      hour = (is_within 0 23 hour p.0).1;
      minute = (is_within 0 59 minute q.0).1;
      second = (is_within 0 60 second q.1).1;
    }

-- a day in range has a number that is neither small nor large
pub day_bound : (year month day : ℕ) → Dated year month day → (10000 ≤ day_number year month day) × (day_number year month day < 65536)
unfolding day_number
day_bound year month day r =
    let y = years_bound (year - 1970) in
    let m = months_bound year (month - 1) in
    (omega (arith, y.0, r.year.0), omega (arith, y.1, r.year.1, m, r.day.1))
