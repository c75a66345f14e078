-- What the lines of the listing and of the stamps share.
use Rattle.std.specs.Prelude.{ℕ, ◌+◌, ◌%◌, ◌^◌, List, ◌++◌}
use Prim.Native.String.{String}
use Rattle.text.specs.Text.{ascii}
use Rattle.text.specs.Digits.{decimal}

abbrev pub labelled : String → ℕ → List ℕ
labelled label n = ascii label ++ decimal n

-- the end of a line
abbrev pub sized : String → ℕ → List ℕ
sized label n = labelled label n ++ ascii "\n"

-- a position in the stream adds what earlier closes reported as used. It is counted in 64 bits
abbrev pub here : ℕ → ℕ → List ℕ
here before p = labelled "at " ((before + p) % 2 ^ 64)
