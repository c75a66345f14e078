-- Laws of the parity: one byte more, none left, two parts joined, and the step of the table.
use mathlib.Core.Path.{◌≡◌, refl, sym, ap, ap₂, ◌∙◌}
use Prim.Native.Nat.{ℕ, zero, suc, ◌+◌, ◌*◌, ◌-◌, ◌/◌, ◌%◌, ◌^◌, ◌≤◌, ◌<◌}
use native.Mathlib.Nat.{mod-lt, mod-eq_of_lt, mod-mod, add_comm, add-sub_cancel, zero-add, add-zero, mul-mod_left}
use native.Mathlib.Omega.{arith}
use mathlib.Core.List.{List, [], ◌∷◌, ◌++◌, append_assoc}
use lib.ListN.{length, get_or, drop, drop_of_length-le, replicate, length-append, length-replicate, replicate-append-replicate}
use lib.Seq.{drop-cons}
use lib.Dec.{lit<}
use lib.Arith.{mod-mul}
use lib.Pow.{split, shr_lt, shl-shr}
use lib.Bits.{bit_xor, bit_and, xor_zero_r, xor_comm, xor_assoc, xor_lt, xor_shifted, and_mask}
use Rattle.parity.specs.Parity.{bits, bits_of, reduce, divide, parity_of, remainders, parity_on}
use Rattle.parity.proofs.Entries.{entry}
use Rattle.parity.proofs.Division.{bits_append, bits_zeros, bits_are, divide_append, divide_lt, divide_xor, divide_add, divide_bits}

-- k zero bits brought down
abbrev pub past : ℕ → ℕ → ℕ
past k r = divide r (replicate k 0)

past_lt : (k : ℕ) {r : ℕ} → r < 2 ^ 24 → past k r < 2 ^ 24
past_lt k {r} h = divide_lt r h (bits_zeros k)

past_xor : (k : ℕ) {r s : ℕ} → r < 2 ^ 24 → s < 2 ^ 24 → past k (bit_xor r s) ≡ bit_xor (past k r) (past k s)
past_xor k {r} {s} hr hs = divide_xor r s hr hs (bits_zeros k) ∙ ap (λ (n : ℕ). bit_xor (past n r) (past k s)) (length-replicate {A = ℕ} k 0)

past_past : (j k r : ℕ) → past k (past j r) ≡ past (j + k) r
past_past j k r = sym (divide_append r (replicate j 0) (replicate k 0)) ∙ ap (divide r) (replicate-append-replicate {A = ℕ} j k 0)

-- running on adds what is left of the number that it runs on from
on_is : (from : ℕ) (bytes : List ℕ) → parity_on from bytes ≡ bit_xor (past (length (bits_of bytes)) (from % 2 ^ 24)) (parity_of bytes)
unfolding parity_of parity_on
on_is from bytes =
    let l = bits_of bytes ++ replicate 24 0 in
    let n : length l ≡ length (bits_of bytes) + 24 = length-append (bits_of bytes) (replicate 24 0) in
    divide_add 24 from 0 0 (omega arith) (lit< tt) (lit< tt) (bits_append (bits_are bytes) (bits_zeros 24))
    ∙ ap₂ (λ (k r : ℕ). bit_xor (past k r) (parity_of bytes))
    (ap (λ (m : ℕ). m - 24) n ∙ add-sub_cancel (length (bits_of bytes)) 24)
    (divide_bits 24 from 0 (omega arith) ∙ zero-add (from % 2 ^ 24))

-- nothing is left of 0
past_zero : (k : ℕ) → past k 0 ≡ 0
unfolding divide reduce
past_zero zero = refl
past_zero (suc k) = past_zero k

-- from 0 it is the parity of the bytes alone
pub on_start : (bytes : List ℕ) → parity_on 0 bytes ≡ parity_of bytes
on_start bytes = on_is 0 bytes ∙ ap (λ (r : ℕ). bit_xor r (parity_of bytes)) (past_zero (length (bits_of bytes)))

-- over no bytes it stays as it is
on_end : (from : ℕ) → parity_on from [] ≡ from % 2 ^ 24
unfolding bits_of parity_of divide reduce
on_end from = on_is from [] ∙ xor_zero_r (from % 2 ^ 24)

pub on_none : (from : ℕ) (l : List ℕ) → length l ≡ 0 → parity_on from l ≡ bit_and from 0xFFFFFF
on_none from [] h = on_end from ∙ sym (and_mask from 24)
on_none from (x ∷ l) h = absurd (omega arith)

-- the low 24 bits count
pub on_low : (from : ℕ) (bytes : List ℕ) → parity_on (from % 2 ^ 24) bytes ≡ parity_on from bytes
on_low from bytes =
    on_is (from % 2 ^ 24) bytes
    ∙ ap (λ (r : ℕ). bit_xor (past (length (bits_of bytes)) r) (parity_of bytes)) (mod-mod from (2 ^ 24))
    ∙ sym (on_is from bytes)

-- eight bits on, and the byte's own remainder
abbrev pub next : ℕ → ℕ → ℕ
next from x = bit_xor (past 8 (from % 2 ^ 24)) (past 24 (x % 2 ^ 8))

byte_lt : (x : ℕ) → x % 2 ^ 8 < 2 ^ 24
byte_lt x = omega (arith, mod-lt x {m = 2 ^ 8} (lit< tt))

low_lt : (from : ℕ) → from % 2 ^ 24 < 2 ^ 24
low_lt from = mod-lt from (lit< tt)

pub next_lt : (from x : ℕ) → next from x < 2 ^ 24
next_lt from x = xor_lt 24 (past 8 (from % 2 ^ 24)) (past 24 (x % 2 ^ 8)) (past_lt 8 (low_lt from)) (past_lt 24 (byte_lt x))

-- a byte stands before others
of_byte : (x : ℕ) (xs : List ℕ) → parity_of (x ∷ xs) ≡ bit_xor (past (length (bits_of xs)) (past 24 (x % 2 ^ 8))) (parity_of xs)
unfolding bits_of parity_of
of_byte x xs =
    let l = bits_of xs ++ replicate 24 0 in
    let n : length l ≡ 24 + length (bits_of xs) = length-append (bits_of xs) (replicate 24 0) ∙ add_comm (length (bits_of xs)) 24 in
    ap (divide 0) (append_assoc (bits 8 x) (bits_of xs) (replicate 24 0)) ∙ divide_append 0 (bits 8 x) l
    ∙ ap (λ (r : ℕ). divide r l) (divide_bits 8 x 0 (omega arith) ∙ zero-add (x % 2 ^ 8) ∙ sym (xor_zero_r (x % 2 ^ 8)))
    ∙ divide_xor (x % 2 ^ 8) 0 (byte_lt x) (lit< tt) (bits_append (bits_are xs) (bits_zeros 24))
    ∙ ap (λ (r : ℕ). bit_xor r (parity_of xs)) (ap (λ (k : ℕ). past k (x % 2 ^ 8)) n ∙ sym (past_past 24 (length (bits_of xs)) (x % 2 ^ 8)))

of_one : (x : ℕ) → x < 2 ^ 8 → parity_of (x ∷ []) ≡ past 24 x
unfolding bits_of parity_of divide reduce
of_one x h = of_byte x [] ∙ xor_zero_r (past 24 (x % 2 ^ 8)) ∙ ap (past 24) (mod-eq_of_lt h)

pub on_byte : (from x : ℕ) (xs : List ℕ) → parity_on from (x ∷ xs) ≡ parity_on (next from x) xs
unfolding bits_of bits
on_byte from x xs =
    let m = length (bits_of xs) in
    let f = from % 2 ^ 24 in
    on_is from (x ∷ xs)
    ∙ ap₂ bit_xor (ap (λ (k : ℕ). past k f) (length-append (bits 8 x) (bits_of xs)) ∙ sym (past_past 8 m f)) (of_byte x xs)
    ∙ sym (xor_assoc (past m (past 8 f)) (past m (past 24 (x % 2 ^ 8))) (parity_of xs))
    ∙ ap (λ (r : ℕ). bit_xor r (parity_of xs)) (sym (past_xor m (past_lt 8 (low_lt from)) (past_lt 24 (byte_lt x))) ∙ ap (past m) (sym (mod-eq_of_lt (next_lt from x))))
    ∙ sym (on_is (next from x) xs)

pub on_next : (crc : ℕ) (l : List ℕ) (i : ℕ) → i < length l → parity_on crc (drop i l) ≡ parity_on (next crc (get_or l i 0)) (drop (suc i) l)
on_next crc l i h = ap (parity_on crc) (drop-cons l i 0 h) ∙ on_byte crc (get_or l i 0) (drop (suc i) l)

pub on_past : (crc : ℕ) (l : List ℕ) (i : ℕ) → crc < 2 ^ 24 → length l ≤ i → parity_on crc (drop i l) ≡ crc
on_past crc l i low h = ap (parity_on crc) (drop_of_length-le l h) ∙ on_end crc ∙ mod-eq_of_lt low

-- two parts joined
pub on_append : (from : ℕ) (a b : List ℕ) → parity_on (parity_on from a) b ≡ parity_on from (a ++ b)
on_append from [] b = ap (λ (r : ℕ). parity_on r b) (on_end from) ∙ on_low from b
on_append from (x ∷ a) b = ap (λ (r : ℕ). parity_on r b) (on_byte from x a) ∙ on_append (next from x) a b ∙ sym (on_byte from x (a ++ b))

-- the parity of a message, taken part by part
pub of_append : (a b : List ℕ) → parity_on (parity_of a) b ≡ parity_of (a ++ b)
of_append a b = ap (λ (r : ℕ). parity_on r b) (sym (on_start a)) ∙ on_append 0 a b ∙ on_start (a ++ b)

-- ---- the step of the table

past_8 : (r : ℕ) → r < 2 ^ 16 → past 8 r ≡ r * 2 ^ 8
unfolding bits
past_8 r h = divide_bits 8 0 r (omega arith) ∙ add-zero (r * 2 ^ 8)

past_16 : (r : ℕ) → r < 2 ^ 8 → past 16 r ≡ r * 2 ^ 16
unfolding bits
past_16 r h = divide_bits 16 0 r (omega arith) ∙ add-zero (r * 2 ^ 16)

top_lt : {crc : ℕ} → crc < 2 ^ 24 → crc / 2 ^ 16 < 2 ^ 8
top_lt low = shr_lt 8 16 low

module _ (crc x : ℕ) (low : crc < 2 ^ 24) (byte : x < 2 ^ 8) where
  index_lt : bit_xor (crc / 2 ^ 16) x < 2 ^ 8
  index_lt = xor_lt 8 (crc / 2 ^ 16) x (top_lt low) byte

  -- eight bits on: the top byte's remainder, and the rest eight places higher
  past_crc : past 8 crc ≡ bit_xor (past 24 (crc / 2 ^ 16)) (crc % 2 ^ 16 * 2 ^ 8)
  past_crc =
      let hi = crc / 2 ^ 16 in let lo = crc % 2 ^ 16 in
      let b : lo < 2 ^ 16 = mod-lt crc (lit< tt) in
      ap (past 8) (sym (split crc 16) ∙ sym (xor_shifted hi 16 lo b) ∙ ap (λ (r : ℕ). bit_xor r lo) (sym (past_16 hi (top_lt low))))
      ∙ past_xor 8 (past_lt 16 (omega (arith, top_lt low))) (omega arith)
      ∙ ap₂ bit_xor (past_past 16 8 hi) (past_8 lo b)

  -- the same in the code's words
  masked : bit_and ((crc * 2 ^ 8) % 2 ^ 32) 0xFFFFFF ≡ crc % 2 ^ 16 * 2 ^ 8
  masked =
      and_mask ((crc * 2 ^ 8) % 2 ^ 32) 24 ∙ ap (λ (r : ℕ). r % 2 ^ 24) (mod-eq_of_lt (omega arith))
      ∙ mod-mul (crc * 2 ^ 8) {m = 2 ^ 16} {c = 2 ^ 8} (lit< tt) (lit< tt)
      ∙ ap₂ (λ (q r : ℕ). q % 2 ^ 16 * 2 ^ 8 + r) (shl-shr crc 8) (mul-mod_left crc (2 ^ 8)) ∙ add-zero (crc % 2 ^ 16 * 2 ^ 8)

  pub step : bit_xor (bit_and ((crc * 2 ^ 8) % 2 ^ 32) 0xFFFFFF) (get_or remainders (bit_xor (crc / 2 ^ 16) x) 0) ≡ next crc x
  step =
      let hi = crc / 2 ^ 16 in let lo = crc % 2 ^ 16 * 2 ^ 8 in
      ap₂ bit_xor masked (entry (bit_xor hi x) index_lt ∙ of_one (bit_xor hi x) index_lt ∙ past_xor 24 (omega (arith, top_lt low)) (omega arith))
      ∙ sym (xor_assoc lo (past 24 hi) (past 24 x))
      ∙ ap (λ (r : ℕ). bit_xor r (past 24 x)) (xor_comm lo (past 24 hi) ∙ sym past_crc)
      ∙ sym (ap₂ (λ (r s : ℕ). bit_xor (past 8 r) (past 24 s)) (mod-eq_of_lt low) (mod-eq_of_lt byte))
