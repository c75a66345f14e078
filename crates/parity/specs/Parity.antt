-- 02, Ticket 4: the three parity bytes of an RTCM frame, CRC-24Q. The message is read as a polynomial over GF(2), a bit to a
-- coefficient, highest first; its parity is the remainder of message(x)·x^24 divided by the generator. Sums are by xor.
use Rattle.std.specs.Prelude.{ℕ, zero, suc, ◌+◌, ◌*◌, ◌/◌, ◌%◌, ◌^◌, List, [], ◌∷◌, ◌++◌, replicate}
use Rattle.std.specs.Int.Bits.{bit_xor}

-- x^24 + x^23 + x^18 + x^17 + x^14 + x^11 + x^10 + x^7 + x^6 + x^5 + x^4 + x^3 + x + 1
abbrev pub generator : ℕ
generator = 0x1864CFB

-- the k low bits of a number, highest first
unfoldable pub bits : ℕ → ℕ → List ℕ
bits zero x = []
bits (suc k) x = x / 2 ^ k % 2 ∷ bits k x

-- the bits of a message, byte after byte
unfoldable pub bits_of : List ℕ → List ℕ
bits_of [] = []
bits_of (x ∷ xs) = bits 8 x ++ bits_of xs

-- the coefficient of x^24 is the quotient's next bit: where it is 1, the generator is taken away
unfoldable pub reduce : ℕ → ℕ
reduce v = bit_xor (v / 2 ^ 24 * generator) v

-- long division: to what is left, the dividend's next bit is brought down
unfoldable pub divide : ℕ → List ℕ → ℕ
divide left [] = left
divide left (b ∷ bs) = divide (reduce (left * 2 + b)) bs

-- the parity of a message: 24 zero bits stand behind it, and what is left at the end is the remainder
unfoldable pub parity_of : List ℕ → ℕ
parity_of bytes = divide 0 (bits_of bytes ++ replicate 24 0)

-- the parities of n single bytes, from i on; the table is those of all 256
unfoldable pub remainders_from : ℕ → ℕ → List ℕ
remainders_from i zero = []
remainders_from i (suc n) = parity_of (i ∷ []) ∷ remainders_from (suc i) n

abbrev pub remainders : List ℕ
remainders = remainders_from 0 256

-- bits added to the first ones of others
unfoldable pub add_to : List ℕ → List ℕ → List ℕ
add_to [] ys = ys
add_to (x ∷ xs) [] = []
add_to (x ∷ xs) (y ∷ ys) = bit_xor x y ∷ add_to xs ys

-- the parity runs on over the bytes from that of what came before: its 24 bits are added to the next 24 of the dividend.
-- Of a number of more bits the low 24 count
unfoldable pub parity_on : ℕ → List ℕ → ℕ
parity_on from bytes = divide 0 (add_to (bits 24 from) (bits_of bytes ++ replicate 24 0))

-- it starts at 0
abbrev pub start : ℕ
start = 0

-- three bytes as one number, high byte first: the parity as a frame has it
abbrev pub word_of : ℕ → ℕ → ℕ → ℕ
word_of a b c = a * 2 ^ 16 + b * 2 ^ 8 + c
