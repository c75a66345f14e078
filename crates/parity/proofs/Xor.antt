-- Laws of xor that the library does not have: four numbers, and a bit before others.
use mathlib.Core.Path.{◌≡◌, sym, ap, ◌∙◌}
use Prim.Native.Nat.{ℕ, ◌+◌, ◌*◌, ◌<◌}
use lib.Bits.{bit_xor, xor_comm, xor_assoc, xor_block}

-- two sums added, term by term
pub xor_four : (a b c d : ℕ) → bit_xor (bit_xor a b) (bit_xor c d) ≡ bit_xor (bit_xor a c) (bit_xor b d)
xor_four a b c d =
    xor_assoc a b (bit_xor c d)
    ∙ ap (bit_xor a) (sym (xor_assoc b c d) ∙ ap (λ (x : ℕ). bit_xor x d) (xor_comm b c) ∙ xor_assoc c b d)
    ∙ sym (xor_assoc a c (bit_xor b d))

-- a bit brought down behind each
pub xor_down : (a b x y : ℕ) → x < 2 → y < 2 → bit_xor a b * 2 + bit_xor x y ≡ bit_xor (a * 2 + x) (b * 2 + y)
xor_down a b x y hx hy = sym (xor_block 1 a b x y hx hy)
