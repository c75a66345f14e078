-- What a record's words say of its call: the state before and after, and what is handed out.
use Rattle.std.specs.Prelude.{ℕ, ◌+◌, List, [], ◌∷◌, replicate, slice_index}

-- what stands in words 9 to 23 of a state, which the record hasn't got
abbrev pub kept : List ℕ
kept = 109 ∷ 110 ∷ 111 ∷ 112 ∷ 113 ∷ 114 ∷ 115 ∷ 116 ∷ 117 ∷ 118 ∷ 119 ∷ 120 ∷ 121 ∷ 122 ∷ 123 ∷ []

-- a state's words, of the record from word n on
abbrev pub state_of : List ℕ → ℕ → List ℕ
state_of w n =
    slice_index w n
    ∷ slice_index w (n + 1)
    ∷ slice_index w (n + 2)
    ∷ slice_index w (n + 3)
    ∷ slice_index w (n + 4)
    ∷ slice_index w (n + 5)
    ∷ slice_index w (n + 6)
    ∷ slice_index w (n + 7)
    ∷ slice_index w (n + 8)
    ∷ kept

abbrev pub out_of : List ℕ → List ℕ
out_of w =
    slice_index w 24 ∷ slice_index w 25 ∷ slice_index w 26 ∷ slice_index w 27 ∷ slice_index w 28 ∷ slice_index w 29 ∷ slice_index w 30 ∷ slice_index w 31 ∷ replicate 8 0
