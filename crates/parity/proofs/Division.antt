-- Long division over GF(2) is linear: what is left of a sum is the sum of what is left.
use mathlib.Core.Path.{◌≡◌, refl, sym, ap, ap₂, ◌∙◌}
use Prim.Native.Nat.{ℕ, zero, suc, ◌+◌, ◌*◌, ◌-◌, ◌/◌, ◌%◌, ◌^◌, ◌≤◌, ◌<◌}
use native.Mathlib.Nat.{sub-zero, suc-sub-suc, mod-lt, div-lt_iff_lt-mul, div-eq_of_lt, not-suc-le-zero, le_of_suc-le-suc, add-zero, mul-le-mul_right, le-mul_of_pos_right, le_trans, le_of_eq, add_assoc, add-mul, mul-one, mul_assoc, mul_right_comm, mod-one, pow-suc, pow-succ'}
use native.Mathlib.Omega.{arith}
use mathlib.Core.List.{List, [], ◌∷◌, ◌++◌}
use lib.ListN.{length, replicate}
use lib.Dec.{lit<}
use lib.Arith.{mod-mul}
use lib.Pow.{pow_pos}
use lib.Bits.{bit_xor, xor_shr}
use Rattle.parity.specs.Parity.{generator, bits, bits_of, reduce, divide, add_to}
use Rattle.parity.proofs.Xor.{xor_four, xor_down}

-- a list of bits
pub data Bits : List ℕ → Type 0 where
  none : Bits []
  bit : {b : ℕ} {l : List ℕ} → b < 2 → Bits l → Bits (b ∷ l)

pub bits_append : {k l : List ℕ} → Bits k → Bits l → Bits (k ++ l)
bits_append none h = h
bits_append (bit hb hk) h = bit hb (bits_append hk h)

pub bits_zeros : (k : ℕ) → Bits (replicate k 0)
bits_zeros zero = none
bits_zeros (suc k) = bit (lit< tt) (bits_zeros k)

pub bits_bits : (k x : ℕ) → Bits (bits k x)
unfolding bits
bits_bits zero x = none
bits_bits (suc k) x = bit (mod-lt (x / 2 ^ k) (lit< tt)) (bits_bits k x)

pub bits_are : (bytes : List ℕ) → Bits (bits_of bytes)
unfolding bits_of
bits_are [] = none
bits_are (x ∷ xs) = bits_append (bits_bits 8 x) (bits_are xs)

-- ---- one turn

-- a multiple by one bit
pub times : (p q : ℕ) → p < 2 → q < 2 → bit_xor p q * generator ≡ bit_xor (p * generator) (q * generator)
times zero zero hp hq = refl
times zero (suc zero) hp hq = refl
times (suc zero) zero hp hq = refl
times (suc zero) (suc zero) hp hq = refl
times zero (suc (suc q)) hp hq = absurd (not-suc-le-zero (le_of_suc-le-suc (le_of_suc-le-suc hq)))
times (suc zero) (suc (suc q)) hp hq = absurd (not-suc-le-zero (le_of_suc-le-suc (le_of_suc-le-suc hq)))
times (suc (suc p)) q hp hq = absurd (not-suc-le-zero (le_of_suc-le-suc (le_of_suc-le-suc hp)))

pub top_bit : (v : ℕ) → v < 2 ^ 25 → v / 2 ^ 24 < 2
top_bit v h = (div-lt_iff_lt-mul (lit< tt)).1 h

pub reduce_xor : (v w : ℕ) → v < 2 ^ 25 → w < 2 ^ 25 → reduce (bit_xor v w) ≡ bit_xor (reduce v) (reduce w)
unfolding reduce
reduce_xor v w hv hw =
    ap (λ (q : ℕ). bit_xor (q * generator) (bit_xor v w)) (xor_shr v w 24)
    ∙ ap (λ (x : ℕ). bit_xor x (bit_xor v w)) (times (v / 2 ^ 24) (w / 2 ^ 24) (top_bit v hv) (top_bit w hw))
    ∙ xor_four (v / 2 ^ 24 * generator) (w / 2 ^ 24 * generator) v w

-- the generator's own coefficient of x^24 is 1
cancels : (q : ℕ) → q < 2 → bit_xor (q * generator / 2 ^ 24) q ≡ 0
cancels zero h = refl
cancels (suc zero) h = refl
cancels (suc (suc q)) h = absurd (not-suc-le-zero (le_of_suc-le-suc (le_of_suc-le-suc h)))

pub reduce_lt : (v : ℕ) → v < 2 ^ 25 → reduce v < 2 ^ 24
unfolding reduce
reduce_lt v h =
    let e = xor_shr (v / 2 ^ 24 * generator) v 24 ∙ cancels (v / 2 ^ 24) (top_bit v h) in
    (div-lt_iff_lt-mul {k = 2 ^ 24} {x = bit_xor (v / 2 ^ 24 * generator) v} {y = 1} (lit< tt)).0 (omega arith)

pub reduce_small : (v : ℕ) → v < 2 ^ 24 → reduce v ≡ v
unfolding reduce
reduce_small v h = ap (λ (q : ℕ). bit_xor (q * generator) v) (div-eq_of_lt h)

pub turn_xor : (r s x y : ℕ) → r < 2 ^ 24 → s < 2 ^ 24 → x < 2 → y < 2
    → reduce (bit_xor r s * 2 + bit_xor x y) ≡ bit_xor (reduce (r * 2 + x)) (reduce (s * 2 + y))
turn_xor r s x y hr hs hx hy = ap reduce (xor_down r s x y hx hy) ∙ reduce_xor (r * 2 + x) (s * 2 + y) (omega arith) (omega arith)

-- ---- all turns

pub divide_append : (r : ℕ) (k l : List ℕ) → divide r (k ++ l) ≡ divide (divide r k) l
unfolding divide
divide_append r [] l = refl
divide_append r (b ∷ k) l = divide_append (reduce (r * 2 + b)) k l

pub divide_lt : (r : ℕ) {l : List ℕ} → r < 2 ^ 24 → Bits l → divide r l < 2 ^ 24
unfolding divide
divide_lt r h none = h
divide_lt r h (bit {b = b} hb hl) = divide_lt (reduce (r * 2 + b)) (reduce_lt (r * 2 + b) (omega arith)) hl

-- what stands before a dividend adds its own remainder
pub divide_xor : (r s : ℕ) {l : List ℕ} → r < 2 ^ 24 → s < 2 ^ 24 → Bits l
    → divide (bit_xor r s) l ≡ bit_xor (divide r (replicate (length l) 0)) (divide s l)
unfolding divide
divide_xor r s hr hs none = refl
divide_xor r s hr hs (bit {b = b} {l = l} hb hl) =
    ap (λ (v : ℕ). divide v l) (turn_xor r s 0 b hr hs (lit< tt) hb)
    ∙ divide_xor (reduce (r * 2 + 0)) (reduce (s * 2 + b)) (reduce_lt (r * 2 + 0) (omega arith)) (reduce_lt (s * 2 + b) (omega arith)) hl

-- and so do bits added to its first ones
pub divide_add : (k x r s : ℕ) {l : List ℕ} → k ≤ length l → r < 2 ^ 24 → s < 2 ^ 24 → Bits l
    → divide (bit_xor r s) (add_to (bits k x) l) ≡ bit_xor (divide (divide r (bits k x)) (replicate (length l - k) 0)) (divide s l)
unfolding divide add_to bits
divide_add zero x r s hk hr hs hl = rw (sub-zero) (divide_xor r s hr hs hl)
divide_add (suc k) x r s hk hr hs none = absurd (not-suc-le-zero hk)
divide_add (suc k) x r s hk hr hs (bit {b = b} {l = l} hb hl) =
    let t = x / 2 ^ k % 2 in
    ap (λ (v : ℕ). divide v (add_to (bits k x) l)) (turn_xor r s t b hr hs (mod-lt (x / 2 ^ k) (lit< tt)) hb)
    ∙ rw (suc-sub-suc) (divide_add k x (reduce (r * 2 + t)) (reduce (s * 2 + b)) (le_of_suc-le-suc hk) (reduce_lt (r * 2 + t) (omega (arith, mod-lt (x / 2 ^ k) {m = 2} (lit< tt)))) (reduce_lt (s * 2 + b) (omega arith)) hl)

-- bits that do not reach x^24 are just brought down
pub divide_bits : (k x r : ℕ) → (r + 1) * 2 ^ k ≤ 2 ^ 24 → divide r (bits k x) ≡ r * 2 ^ k + x % 2 ^ k
unfolding divide bits
divide_bits zero x r h = sym (ap₂ (λ (a b : ℕ). a + b) (mul-one r) (mod-one x) ∙ add-zero r)
divide_bits (suc k) x r h =
    let p = 2 ^ k in
    let t = x / p % 2 in
    let d = mod-lt (x / p) {m = 2} (lit< tt) in
    let e : (r * 2 + t) * p ≡ r * p * 2 + t * p = add-mul (r * 2) t p ∙ ap (λ (a : ℕ). a + t * p) (mul_right_comm r 2 p) in
    let f : (r * 2 + t + 1) * p ≤ 2 ^ 24 =
    le_trans (mul-le-mul_right p (omega arith)) (le_trans (le_of_eq (mul_assoc (r + 1) 2 p ∙ ap (λ (a : ℕ). (r + 1) * a) (sym (pow-succ' 2 k)))) h)
    in
    ap (λ (v : ℕ). divide v (bits k x)) (reduce_small (r * 2 + t) (omega (arith, le_trans (le-mul_of_pos_right (r * 2 + t + 1) (pow_pos k)) f)))
    ∙ divide_bits k x (r * 2 + t) f
    ∙ ap (λ (a : ℕ). a + x % p) e ∙ add_assoc (r * p * 2) (t * p) (x % p)
    ∙ sym (ap₂ (λ (a b : ℕ). a + b) (ap (λ (a : ℕ). r * a) (pow-suc 2 k) ∙ sym (mul_assoc r p 2)) (ap (λ (a : ℕ). x % a) (pow-succ' 2 k) ∙ mod-mul x (lit< tt) (pow_pos k)))
