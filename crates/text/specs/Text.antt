-- Text as bytes, and the bytes of a lent buffer once a text is put into it.
use Rattle.std.specs.Prelude.{◌≡◌, ℕ, ◌+◌, List, [], ◌∷◌, ◌++◌, length, take, drop}
use Prim.Native.Char.{code}
use Prim.Native.String.{String, [] as noText, ◌∷◌ as ◌then◌}

-- the bytes of a text of ASCII characters
abbrev pub ascii : String → List ℕ
ascii noText = []
ascii (c then s) = code c ∷ ascii s

-- the buffer with a text in it from a place on; all other bytes stay
abbrev pub put : List ℕ → ℕ → List ℕ → List ℕ
put out at text = take at out ++ text ++ drop (at + length text) out

-- a text was put there, and the answer is the place behind it
pub record Puts (text out : List ℕ) (at : ℕ) (after : List ℕ) (next : ℕ) : Type 0 where
  pub bytes : after ≡ put out at text
  pub place : next ≡ at + length text
