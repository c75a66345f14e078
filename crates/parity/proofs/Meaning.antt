-- What the long division gives is the remainder: a dividend is quotient times generator plus remainder, sums by xor and
-- products without carries, and no other remainder of 24 bits will do.
use mathlib.Core.Path.{◌≡◌, refl, sym, ap, ap₂, ◌∙◌}
use Prim.Native.Nat.{ℕ, zero, suc, ◌+◌, ◌*◌, ◌/◌, ◌^◌, ◌≤◌, ◌<◌}
use native.Mathlib.Nat.{add-zero, not-suc-le-zero, le_of_suc-le-suc}
use native.Mathlib.Omega.{arith}
use mathlib.Core.List.{List, [], ◌∷◌, ◌++◌}
use lib.ListN.{length, replicate}
use lib.Dec.{lit<}
use lib.Bits.{bit_xor, xor_shr, xor_self, xor_zero_r, xor_assoc, xor_lt}
use Rattle.parity.specs.Parity.{generator, bits_of, reduce, divide, parity_of, add_to}
use Rattle.parity.proofs.Xor.{xor_four, xor_down}
use Rattle.parity.proofs.Division.{Bits, none, bit, bits_append, bits_zeros, bits_are, times, top_bit, reduce_lt, divide_lt}

-- bits as one number, behind what stands before them
unfoldable pub number : ℕ → List ℕ → ℕ
number before [] = before
number before (b ∷ bs) = number (before * 2 + b) bs

-- the quotient's bits
unfoldable pub quotient : ℕ → List ℕ → List ℕ
quotient left [] = []
quotient left (b ∷ bs) = (left * 2 + b) / 2 ^ 24 ∷ quotient (reduce (left * 2 + b)) bs

-- bits times the generator, behind what stands before
unfoldable pub product : ℕ → List ℕ → ℕ
product before [] = before
product before (q ∷ qs) = product (bit_xor (before * 2) (q * generator)) qs

-- a sum moved up by one place
double : (a b y : ℕ) → y < 2 → bit_xor a b * 2 + y ≡ bit_xor (a * 2) (b * 2 + y)
double a b y h = xor_down a b 0 y (lit< tt) h ∙ ap (λ (x : ℕ). bit_xor x (b * 2 + y)) (add-zero (a * 2))

-- what is taken away and what is left are the whole
whole : (v : ℕ) → bit_xor (v / 2 ^ 24 * generator) (reduce v) ≡ v
unfolding reduce
whole v =
    let t = v / 2 ^ 24 * generator in
    sym (xor_assoc t t v) ∙ ap (λ (x : ℕ). bit_xor x v) (xor_self t)

behind : (a r : ℕ) {l : List ℕ} → Bits l → number (bit_xor a r) l ≡ bit_xor (product a (quotient r l)) (divide r l)
unfolding number quotient product divide
behind a r none = refl
behind a r (bit {b = b} {l = l} hb hl) =
    let v = r * 2 + b in
    let t = v / 2 ^ 24 * generator in
    ap (λ (x : ℕ). number x l) (double a r b hb ∙ ap (bit_xor (a * 2)) (sym (whole v)) ∙ sym (xor_assoc (a * 2) t (reduce v)))
    ∙ behind (bit_xor (a * 2) t) (reduce v) hl

-- dividend = quotient · generator + remainder
division : {l : List ℕ} → Bits l → number 0 l ≡ bit_xor (product 0 (quotient 0 l)) (divide 0 l)
division h = behind 0 0 h

-- ---- and only so

quotient_bits : (r : ℕ) {l : List ℕ} → r < 2 ^ 24 → Bits l → Bits (quotient r l)
unfolding quotient
quotient_bits r h none = none
quotient_bits r h (bit {b = b} hb hl) = bit (top_bit (r * 2 + b) (omega arith)) (quotient_bits (reduce (r * 2 + b)) (reduce_lt (r * 2 + b) (omega arith)) hl)

quotient_long : (r : ℕ) (l : List ℕ) → length (quotient r l) ≡ length l
unfolding quotient
quotient_long r [] = refl
quotient_long r (b ∷ l) = rw (quotient_long (reduce (r * 2 + b)) l)

add_bits : {p q : List ℕ} → Bits p → Bits q → Bits (add_to p q)
unfolding add_to
add_bits none hq = hq
add_bits (bit hx hp) none = none
add_bits (bit {b = x} hx hp) (bit {b = y} hy hq) = bit (xor_lt 1 x y hx hy) (add_bits hp hq)

-- products add
product_xor : (a b : ℕ) {p q : List ℕ} → length p ≡ length q → Bits p → Bits q → product (bit_xor a b) (add_to p q) ≡ bit_xor (product a p) (product b q)
unfolding product add_to
product_xor a b e none none = refl
product_xor a b e none (bit hy hq) = absurd (omega arith)
product_xor a b e (bit hx hp) none = absurd (omega arith)
product_xor a b e (bit {b = x} {l = p} hx hp) (bit {b = y} {l = q} hy hq) =
    ap (λ (v : ℕ). product v (add_to p q)) (
    ap₂ bit_xor (sym (add-zero (bit_xor a b * 2)) ∙ double a b 0 (lit< tt) ∙ ap (bit_xor (a * 2)) (add-zero (b * 2))) (times x y hx hy)
    ∙ xor_four (a * 2) (b * 2) (x * generator) (y * generator)
    )
    ∙ product_xor (bit_xor (a * 2) (x * generator)) (bit_xor (b * 2) (y * generator)) (omega arith) hp hq

below : (q : ℕ) → q < 2 → q * generator / 2 ^ 25 ≡ 0
below zero h = refl
below (suc zero) h = refl
below (suc (suc q)) h = absurd (not-suc-le-zero (le_of_suc-le-suc (le_of_suc-le-suc h)))

-- what reaches x^24 goes on reaching it
grows : (a : ℕ) {l : List ℕ} → 2 ^ 24 ≤ a → Bits l → 2 ^ 24 ≤ product a l
unfolding product
grows a h none = h
grows a h (bit {b = q} hq hl) =
    let v = bit_xor (a * 2) (q * generator) in
    let e : v / 2 ^ 25 ≡ a * 2 / 2 ^ 25 =
    xor_shr (a * 2) (q * generator) 25 ∙ ap (bit_xor (a * 2 / 2 ^ 25)) (below q hq) ∙ xor_zero_r (a * 2 / 2 ^ 25)
    in
    grows v (omega arith) hl

-- so a product of 24 bits is 0
none_small : {l : List ℕ} → Bits l → product 0 l < 2 ^ 24 → product 0 l ≡ 0
unfolding product
none_small none h = refl
none_small (bit {b = zero} hb hl) h = none_small hl h
none_small (bit {b = suc zero} hb hl) h = absurd (omega (arith, grows generator (omega arith) hl))
none_small (bit {b = suc (suc b)} hb hl) h = absurd (omega arith)

xor_zero : (r s : ℕ) → bit_xor r s ≡ 0 → r ≡ s
xor_zero r s e = sym (xor_zero_r r) ∙ ap (bit_xor r) (sym (xor_self s)) ∙ sym (xor_assoc r s s) ∙ ap (λ (x : ℕ). bit_xor x s) e

-- two sums that are the same
crossed : (p r q s : ℕ) → bit_xor p r ≡ bit_xor q s → bit_xor p q ≡ bit_xor s r
crossed p r q s e =
    sym (xor_zero_r (bit_xor p q)) ∙ ap (bit_xor (bit_xor p q)) (sym (xor_self r)) ∙ xor_four p q r r
    ∙ ap (λ (x : ℕ). bit_xor x (bit_xor q r)) e ∙ xor_four q s q r ∙ ap (λ (x : ℕ). bit_xor x (bit_xor s r)) (xor_self q)

only : {l : List ℕ} → Bits l → (q : List ℕ) → Bits q → length q ≡ length l → (r : ℕ) → r < 2 ^ 24 → number 0 l ≡ bit_xor (product 0 q) r → divide 0 l ≡ r
only {l} hl q hq n r h e =
    let o = quotient 0 l in
    let c : bit_xor (product 0 q) (product 0 o) ≡ bit_xor (divide 0 l) r = crossed (product 0 q) r (product 0 o) (divide 0 l) (sym e ∙ division hl) in
    let s : product 0 (add_to q o) ≡ bit_xor (divide 0 l) r = product_xor 0 0 (n ∙ sym (quotient_long 0 l)) hq (quotient_bits 0 (lit< tt) hl) ∙ c in
    let b = xor_lt 24 (divide 0 l) r (divide_lt 0 (lit< tt) hl) h in
    xor_zero (divide 0 l) r (sym s ∙ none_small (add_bits hq (quotient_bits 0 (lit< tt) hl)) (rw s b))

-- ---- of a message

module _ (bytes : List ℕ) where
  unfoldable pub dividend : List ℕ
  dividend = bits_of bytes ++ replicate 24 0

  are_bits : Bits dividend
  unfolding dividend
  are_bits = bits_append (bits_are bytes) (bits_zeros 24)

  -- message(x)·x^24 = quotient · generator + parity,
  pub parity_is : number 0 dividend ≡ bit_xor (product 0 (quotient 0 dividend)) (parity_of bytes)
  unfolding dividend parity_of
  parity_is = division are_bits

  -- the parity has 24 bits,
  pub parity_lt : parity_of bytes < 2 ^ 24
  unfolding dividend parity_of
  parity_lt = divide_lt 0 (lit< tt) are_bits

  -- and no other number of 24 bits is left by a quotient of as many bits
  pub parity_only : (q : List ℕ) → Bits q → length q ≡ length dividend → (r : ℕ) → r < 2 ^ 24 → number 0 dividend ≡ bit_xor (product 0 q) r → parity_of bytes ≡ r
  unfolding dividend parity_of
  parity_only q hq n r h e = only are_bits q hq n r h e
