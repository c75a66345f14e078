-- The calendar's laws: what the code computes is what the definition counts.
use mathlib.Core.Path.{◌≡◌, refl, sym, ap, ◌∙◌}
use mathlib.Core.Bool.{Bool, true, false, true≢false}
use mathlib.Core.List.{List, [], ◌∷◌}
use Prim.Native.Nat.{ℕ, zero, suc, ◌+◌, ◌-◌, ◌*◌, ◌/◌, ◌%◌, ◌≤◌, ◌<◌}
use native.Mathlib.Omega.{arith}
use lib.ListN.{length, get_or, take}
use lib.Dec.{eqb}
use borrow.Author.Tests.{eqb-true, eqb-false}
use Rattle.std.specs.Int.{from_bool}
use Rattle.window.specs.Pick.{pick}
use Rattle.window.proofs.Pick.{by_pick}
use Rattle.calendar.specs.Calendar.{leap, year_length, month_lengths, days_in, days_of_years, days_before_year, total}

-- ---- years: one more for each fourth, without the hundredths, with the four hundredths

-- the days of n years, with the hundredths behind on the left, so that nothing is subtracted
abbrev Counted : ℕ → ℕ → Type 0
Counted n days = days + (n + 69) / 100 ≡ 365 * n + (n + 1) / 4 + (n + 369) / 400

by_4 : (n : ℕ) → (1970 + n) % 4 ≡ 0 → (suc n + 1) / 4 ≡ (n + 1) / 4 + 1
by_4 n h = omega arith

not_by_4 : (n : ℕ) → ((1970 + n) % 4 ≡ 0 → ⊥) → (suc n + 1) / 4 ≡ (n + 1) / 4 + 0
not_by_4 n h = omega arith

by_100 : (n : ℕ) → (1970 + n) % 100 ≡ 0 → (suc n + 69) / 100 ≡ (n + 69) / 100 + 1
by_100 n h = omega arith

not_by_100 : (n : ℕ) → ((1970 + n) % 100 ≡ 0 → ⊥) → (suc n + 69) / 100 ≡ (n + 69) / 100 + 0
not_by_100 n h = omega arith

by_400 : (n : ℕ) → (1970 + n) % 400 ≡ 0 → (suc n + 369) / 400 ≡ (n + 369) / 400 + 1
by_400 n h = omega arith

not_by_400 : (n : ℕ) → ((1970 + n) % 400 ≡ 0 → ⊥) → (suc n + 369) / 400 ≡ (n + 369) / 400 + 0
not_by_400 n h = omega arith

four_of_hundred : (y : ℕ) → y % 400 ≡ 0 → y % 100 ≡ 0
four_of_hundred y h = omega arith

hundred_of_four : (y : ℕ) → y % 100 ≡ 0 → y % 4 ≡ 0
hundred_of_four y h = omega arith

-- by the rule's outcomes
by_rule : (P : Bool → Type 0) (y : ℕ) → (y % 400 ≡ 0 → P true) → ((y % 400 ≡ 0 → ⊥) → y % 100 ≡ 0 → P false)
    → ((y % 100 ≡ 0 → ⊥) → y % 4 ≡ 0 → P true) → ((y % 4 ≡ 0 → ⊥) → P false) → P (leap y)
unfolding leap
by_rule P y p q r s =
    by_pick P (λ t. p (eqb-true (y % 400) 0 t))
    (λ f. by_pick P (λ t. q (eqb-false (y % 400) 0 f) (eqb-true (y % 100) 0 t))
    (λ g. by_test P (eqb (y % 4) 0) (λ t. r (eqb-false (y % 100) 0 g) (eqb-true (y % 4) 0 t)) (λ h. s (eqb-false (y % 4) 0 h))))
  where
    by_test : (P : Bool → Type 0) (b : Bool) → (b ≡ true → P true) → (b ≡ false → P false) → P b
    by_test P true f g = f refl
    by_test P false f g = g refl

-- a year of x days, where the fourths grow by i, the hundredths by j and the four hundredths by k
sum_up : (n days a b c i j k x : ℕ) {p q r : ℕ} → days + b ≡ 365 * n + a + c → x + j ≡ 365 + i + k → p ≡ a + i → q ≡ b + j → r ≡ c + k
    → days + x + q ≡ 365 * suc n + p + r
sum_up n days a b c i j k x e h p q r = omega arith

module _ (n days : ℕ) (e : Counted n days) where
  grown : (i j k x : ℕ) → x + j ≡ 365 + i + k → (suc n + 1) / 4 ≡ (n + 1) / 4 + i → (suc n + 69) / 100 ≡ (n + 69) / 100 + j
      → (suc n + 369) / 400 ≡ (n + 369) / 400 + k → Counted (suc n) (days + x)
  grown i j k x h p q r = sum_up n days ((n + 1) / 4) ((n + 69) / 100) ((n + 369) / 400) i j k x e h p q r

  one_year : Counted (suc n) (days + year_length (1970 + n))
  unfolding pick
  one_year =
      let y : ℕ = 1970 + n in
      by_rule (λ l. Counted (suc n) (days + pick l 366 365)) y
      (λ h. grown 1 1 1 366 refl (by_4 n (hundred_of_four y (four_of_hundred y h))) (by_100 n (four_of_hundred y h)) (by_400 n h))
      (λ f h. grown 1 1 0 365 refl (by_4 n (hundred_of_four y h)) (by_100 n h) (not_by_400 n f))
      (λ f h. grown 1 0 0 366 refl (by_4 n h) (not_by_100 n f) (not_by_400 n (λ k. f (four_of_hundred y k))))
      (λ f. grown 0 0 0 365 refl (not_by_4 n f) (not_by_100 n (λ k. f (hundred_of_four y k))) (not_by_400 n (λ k. f (hundred_of_four y (four_of_hundred y k)))))

counted : (n : ℕ) → Counted n (days_of_years n)
unfolding days_of_years
counted zero = refl
counted (suc n) = one_year n (days_of_years n) (counted n)

pub years : (y : ℕ) → 1970 ≤ y → days_before_year y ≡ 365 * (y - 1970) + (y - 1969) / 4 + (y - 1601) / 400 - (y - 1901) / 100
years y h =
    let n : ℕ = y - 1970 in
    let e : y ≡ n + 1970 = omega arith in
    let p : (y - 1969) / 4 ≡ (n + 1) / 4 = ap (λ (x : ℕ). x / 4) (omega arith) in
    let q : (y - 1901) / 100 ≡ (n + 69) / 100 = ap (λ (x : ℕ). x / 100) (omega arith) in
    let r : (y - 1601) / 400 ≡ (n + 369) / 400 = ap (λ (x : ℕ). x / 400) (omega arith) in
    rw (p, q, r) (apart (days_of_years n) ((n + 69) / 100) (365 * n) ((n + 1) / 4) ((n + 369) / 400) (counted n))
  where
    apart : (a b c d e : ℕ) → a + b ≡ c + d + e → a ≡ c + d + e - b
    apart a b c d e h = omega arith

pub years_bound : (n : ℕ) → (365 * n ≤ days_of_years n) × (days_of_years n ≤ 366 * n)
unfolding days_of_years
years_bound zero = (omega arith, omega arith)
years_bound (suc n) =
    let h = years_bound n in
    let one : (365 ≤ year_length (1970 + n)) × (year_length (1970 + n) ≤ 366) =
    by_pick (λ x. (365 ≤ x) × (x ≤ 366)) (λ _. (omega arith, omega arith)) (λ _. (omega arith, omega arith)) in
    (omega (arith, h.0, one.0), omega (arith, h.1, one.1))

-- ---- months

-- a rule of every entry of a list
abbrev AllOf : (ℕ → Type 0) → List ℕ → Type 0
AllOf P [] = Unit {0}
AllOf P (x ∷ xs) = P x × AllOf P xs

all_at : (P : ℕ → Type 0) (l : List ℕ) → AllOf P l → (k : ℕ) → k < length l → P (get_or l k 0)
all_at P [] h k b = absurd (omega arith)
all_at P (x ∷ l) h zero b = h.0
all_at P (x ∷ l) h (suc k) b = all_at P l h.1 k (omega arith)

abbrev Month : ℕ → Type 0
Month n = (28 ≤ n) × (n ≤ 31)

all_months : (l : Bool) → AllOf Month (month_lengths l)
unfolding pick
all_months true = omega arith
all_months false = omega arith

pub days_bound : (y m : ℕ) → 1 ≤ m → m ≤ 12 → (28 ≤ days_in y m) × (days_in y m ≤ 31)
days_bound y m g h = all_at Month (month_lengths (leap y)) (all_months (leap y)) (m - 1) (omega arith)

-- the months before one are at most the year
beginning : (k : ℕ) (l : List ℕ) → total (take k l) ≤ total l
beginning zero l = omega arith
beginning (suc k) [] = omega arith
beginning (suc k) (x ∷ l) = omega (arith, beginning k l)

a_year : (l : Bool) → total (month_lengths l) ≤ 366
unfolding pick
a_year true = omega arith
a_year false = omega arith

pub months_bound : (y k : ℕ) → total (take k (month_lengths (leap y))) ≤ 366
months_bound y k = omega (arith, beginning k (month_lengths (leap y)), a_year (leap y))

-- a month is as long as in a year that is no leap year, but for February; k months are before it
abbrev pub months : List ℕ
months = 31 ∷ 28 ∷ 31 ∷ 30 ∷ 31 ∷ 30 ∷ 31 ∷ 31 ∷ 30 ∷ 31 ∷ 30 ∷ 31 ∷ []

pub plain_month : (l : Bool) (k : ℕ) → (k ≡ 1 → l ≡ false) → get_or months k 0 ≡ get_or (month_lengths l) k 0
unfolding pick
plain_month false k f = refl
plain_month true zero f = refl
plain_month true (suc zero) f = absurd (true≢false (f refl))
plain_month true (suc (suc k)) f = refl

-- the sums of a list's beginnings
abbrev sums : ℕ → List ℕ → List ℕ
sums a [] = []
sums a (x ∷ xs) = a ∷ sums (a + x) xs

sums_at : (a : ℕ) (l : List ℕ) (k : ℕ) → k < length l → get_or (sums a l) k 0 ≡ a + total (take k l)
sums_at a [] k h = absurd (omega arith)
sums_at a (x ∷ l) zero h = omega arith
sums_at a (x ∷ l) (suc k) h = sums_at (a + x) l k (omega arith) ∙ omega arith

-- the days before each month, of a year that is no leap year; from March on, a leap year has one more
abbrev pub before : List ℕ
before = 0 ∷ 31 ∷ 59 ∷ 90 ∷ 120 ∷ 151 ∷ 181 ∷ 212 ∷ 243 ∷ 273 ∷ 304 ∷ 334 ∷ []

pub before_bound : (k : ℕ) → k < 12 → get_or before k 0 ≤ 334
before_bound k h = all_at (λ n. n ≤ 334) before (omega arith) k h

plain_before : (k : ℕ) → k < 12 → get_or before k 0 ≡ total (take k (month_lengths false))
unfolding pick
plain_before k h = sums_at 0 months k h ∙ omega arith

leap_before : (k : ℕ) → total (take (suc (suc k)) (month_lengths true)) ≡ total (take (suc (suc k)) (month_lengths false)) + 1
unfolding pick
leap_before k = omega arith

pub month_before : (l : Bool) (k : ℕ) → (1 < k → l ≡ false) → k < 12 → get_or before k 0 ≡ total (take k (month_lengths l))
month_before false k f h = plain_before k h
month_before true zero f h = refl
month_before true (suc zero) f h = refl
month_before true (suc (suc k)) f h = absurd (true≢false (f (omega arith)))

pub leap_month_before : (k : ℕ) → 1 < k → k < 12 → get_or before k 0 + 1 ≡ total (take k (month_lengths true))
leap_month_before zero g h = absurd (omega arith)
leap_month_before (suc zero) g h = absurd (omega arith)
leap_month_before (suc (suc k)) g h = rw (plain_before (suc (suc k)) h) (sym (leap_before k))

-- a day more, or none
pub a_day : (b : Bool) → from_bool b ≤ 1
a_day true = omega arith
a_day false = omega arith
