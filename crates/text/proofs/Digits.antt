-- Decimal digits: what the kit writes is the definition's, and reading them back gives the number. Hexadecimal ones: all but the
-- last, and the last.
use Rattle.std.proofs.Common.{◌≡◌, ℕ, zero, suc, ◌+◌, ◌-◌, ◌*◌, ◌/◌, ◌%◌, ◌^◌, ◌<◌, ◌≤◌, List, [], ◌∷◌, ◌++◌, get_or, refl, ◌∙◌, mod-eq_of_lt, pow-suc, lt_of_not-le, arith, ltb-false, le-ltb, lt-ltb}
use native.Mathlib.Nat.{one-le-pow, pow-le-pow_right}
use Rattle.io.specs.Digits.{last_digits, hex_digit_ascii, IsDigitCount}
use Rattle.window.specs.Pick.{pick}
use Rattle.window.proofs.Pick.{by_pick}
use Rattle.text.specs.Digits.{digits_in, decimal, read_on, read, hex_digit, hex}

one_digit : (f n : ℕ) → n < 10 → digits_in (suc f) n ≡ (48 + n) ∷ []
unfolding digits_in pick
one_digit f n h = rw (lt-ltb n 10 h)

more_digits : (f n : ℕ) → 10 ≤ n → digits_in (suc f) n ≡ digits_in f (n / 10) ++ ((48 + n % 10) ∷ [])
unfolding digits_in pick
more_digits f n h = rw (le-ltb n 10 h)

last_digit : (n : ℕ) → hex_digit_ascii (n % 10) ≡ 48 + n % 10
last_digit n =
    let h : n % 10 < 10 = omega arith in
    rw (lt-ltb (n % 10) 10 h)

-- in as many places as the kit takes, and in any more
kit_digits : (f k n : ℕ) → suc k ≤ f → n < 10 ^ suc k → (1 < suc k → 10 ^ k ≤ n) → last_digits 10 (suc k) n ≡ digits_in f n
kit_digits zero k n h u l = absurd (omega arith)
kit_digits (suc f) zero n h u l =
    let s : n < 10 = omega arith in
    rw (last_digit n, mod-eq_of_lt s, one_digit f n s)
kit_digits (suc f) (suc k) n h u l =
    let lower : 10 ^ suc k ≤ n = l (omega arith) in
    let a : n < 10 ^ suc k * 10 = rw pow-suc at u in
    let b : 10 ^ k * 10 ≤ n = rw pow-suc at lower in
    let one : 1 ≤ 10 ^ k = one-le-pow k 10 (omega arith) in
    rw (last_digit n, kit_digits f k (n / 10) (omega arith) (omega arith) (λ (_ : 1 < suc k). omega arith), more_digits f n (omega arith))

-- 20 digits hold every number of 64 bits
pub kit_short : (k n : ℕ) → n < 2 ^ 64 → IsDigitCount 10 1 n k → k ≤ 20
kit_short k n s h =
    let most : k < 21 =
    lt_of_not-le
    (λ (b : 21 ≤ k). let big : 10 ^ 20 ≤ 10 ^ (k - 1) = pow-le-pow_right {n = 10} (omega arith) {i = 20} {j = k - 1} (omega arith) in
    omega (arith, h.2 (omega arith))) in
    omega arith

pub kit_decimal : (k n : ℕ) → n < 2 ^ 64 → IsDigitCount 10 1 n k → last_digits 10 k n ≡ decimal n
kit_decimal zero n s h = absurd (omega (arith, h.0))
kit_decimal (suc k) n s h =
    let e : suc k - 1 ≡ k = omega arith in
    kit_digits 20 k n (kit_short (suc k) n s h) h.1 (λ l. rw e at (h.2 l))

-- ---- the digits of a number say that number

read_append : (n : ℕ) (xs ys : List ℕ) → read_on n (xs ++ ys) ≡ read_on (read_on n xs) ys
read_append n [] ys = refl
read_append n (x ∷ xs) ys = read_append (10 * n + (x - 48)) xs ys

read_digits : (f n : ℕ) → n < 10 ^ f → read (digits_in f n) ≡ n
unfolding digits_in
read_digits zero n h = omega arith
read_digits (suc f) n h =
    by_pick (λ l. read l ≡ n)
    (λ e. omega arith)
    (λ e.
    let fewer : n < 10 ^ f * 10 = rw pow-suc at h in
    read_append 0 (digits_in f (n / 10)) ((48 + n % 10) ∷ []) ∙ rw (read_digits f (n / 10) (omega arith)) (omega arith))

pub read_decimal : (n : ℕ) → n < 2 ^ 64 → read (decimal n) ≡ n
read_decimal n s = read_digits 20 n (omega arith)

-- and none is written for nothing: the first digit is not 0, but for the number 0

front : (xs ys : List ℕ) → 48 < get_or xs 0 0 → 48 < get_or (xs ++ ys) 0 0
front [] ys h = absurd (omega arith)
front (x ∷ xs) ys h = h

first_digit : (f n : ℕ) → n < 10 ^ f → 0 < n → 48 < get_or (digits_in f n) 0 0
unfolding digits_in
first_digit zero n h p = absurd (omega arith)
first_digit (suc f) n h p =
    by_pick (λ l. 48 < get_or l 0 0)
    (λ e. omega arith)
    (λ e.
    let fewer : n < 10 ^ f * 10 = rw pow-suc at h in
    let ten : 10 ≤ n = ltb-false n 10 e in
    front (digits_in f (n / 10)) ((48 + n % 10) ∷ []) (first_digit f (n / 10) (omega arith) (omega arith)))

pub no_zero_ahead : (n : ℕ) → n < 2 ^ 64 → 0 < n → 48 < get_or (decimal n) 0 0
no_zero_ahead n s p = first_digit 20 n (omega arith) p

-- ---- hexadecimal digits

pub hex_none : (places n : ℕ) → places ≡ 0 → hex places n ≡ []
unfolding hex
hex_none zero n e = refl
hex_none (suc places) n e = absurd (omega arith)

pub hex_more : (places n : ℕ) → 0 < places → hex places n ≡ hex (places - 1) (n / 16) ++ (hex_digit (n % 16) ∷ [])
unfolding hex
hex_more zero n some = absurd (omega arith)
hex_more (suc places) n some = let e : suc places - 1 ≡ places = omega arith in rw e
