-- The vectors: one claim over the table, computed. And the generator's terms.
use mathlib.Core.Path.{◌≡◌, refl}
use mathlib.Core.Bool.{true}
use Prim.Native.Nat.{◌+◌, ◌^◌}
use Rattle.parity.specs.Parity.{generator, bits, bits_of, reduce, divide, parity_of}
use Rattle.parity.specs.Vectors.{every, vectors}

pub all_right : every vectors ≡ true
unfolding parity_of bits_of bits divide reduce
all_right = refl

pub terms : generator ≡ 2 ^ 24 + 2 ^ 23 + 2 ^ 18 + 2 ^ 17 + 2 ^ 14 + 2 ^ 11 + 2 ^ 10 + 2 ^ 7 + 2 ^ 6 + 2 ^ 5 + 2 ^ 4 + 2 ^ 3 + 2 + 1
terms = refl
