-- Messages and their parities, from outside: one table.
use Rattle.std.specs.Prelude.{ℕ, Bool, true, ◌&&◌, List, [], ◌∷◌, eqb}
use Rattle.parity.specs.Parity.{parity_of}

pub record Vector : Type 0 where
  pub message : List ℕ
  pub parity : ℕ

abbrev pub every : List Vector → Bool
every [] = true
every (v ∷ vs) = eqb (parity_of v.message) v.parity && every vs

-- the digits 123456789, the usual check of a CRC
abbrev digits : Vector
digits = record { message = 0x31 ∷ 0x32 ∷ 0x33 ∷ 0x34 ∷ 0x35 ∷ 0x36 ∷ 0x37 ∷ 0x38 ∷ 0x39 ∷ []; parity = 0xCDE703 }

-- no bytes
abbrev nothing : Vector
nothing = record { message = []; parity = 0x000000 }

-- the last bit alone leaves the generator without x^24
abbrev one_bit : Vector
one_bit = record { message = 0x01 ∷ []; parity = 0x864CFB }

-- a frame with message 1005, published as an example: parity 36 0B 98
abbrev example : Vector
example =
    record {
      message =
          0xD3 ∷ 0x00 ∷ 0x13 ∷ 0x3E ∷ 0xD7 ∷ 0xD3 ∷ 0x02 ∷ 0x02 ∷
          0x98 ∷ 0x0E ∷ 0xDE ∷ 0xEF ∷ 0x34 ∷ 0xB4 ∷ 0xBD ∷ 0x62 ∷
          0xAC ∷ 0x09 ∷ 0x41 ∷ 0x98 ∷ 0x6F ∷ 0x33 ∷ [];
      parity = 0x360B98;
    }

-- a frame with message 1230, as a receiver sent it: parity A8 F7 2A
abbrev received : Vector
received = record { message = 0xD3 ∷ 0x00 ∷ 0x08 ∷ 0x4C ∷ 0xE0 ∷ 0x00 ∷ 0x8A ∷ 0x00 ∷ 0x00 ∷ 0x00 ∷ 0x00 ∷ []; parity = 0xA8F72A }

-- the same with its parity behind it: nothing is left
abbrev whole : Vector
whole =
    record {
      message =
          0xD3 ∷ 0x00 ∷ 0x08 ∷ 0x4C ∷ 0xE0 ∷ 0x00 ∷ 0x8A ∷ 0x00 ∷
          0x00 ∷ 0x00 ∷ 0x00 ∷ 0xA8 ∷ 0xF7 ∷ 0x2A ∷ [];
      parity = 0x000000;
    }

abbrev pub vectors : List Vector
vectors = digits ∷ nothing ∷ one_bit ∷ example ∷ received ∷ whole ∷ []
