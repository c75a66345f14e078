-- 01, "Bench set", the listing program: what stands in its answers' lines; and what 02, Ticket 4, adds. Class, id, sums and parities
-- are upper-case hex, all other numbers decimal.
use Rattle.std.specs.Prelude.{ℕ, Bool, true, false, List, ◌++◌}
use Prim.Native.String.{String}
use Rattle.text.specs.Text.{ascii}
use Rattle.text.specs.Digits.{hex}
use Rattle.text.specs.Labels.{sized, here}

-- what stands behind the position
abbrev pub ubx : ℕ → ℕ → ℕ → List ℕ
ubx class id n = ascii " ubx " ++ hex 2 class ++ ascii " " ++ hex 2 id ++ sized " len " n

-- what was received, and what was computed
abbrev pub compared : String → ℕ → ℕ → ℕ → List ℕ
compared label places expect got = ascii label ++ hex places expect ++ ascii " got " ++ hex places got

abbrev pub sums : ℕ → ℕ → List ℕ
sums expect got = compared " sum expect " 4 expect got

-- of a wrong sum, 01's line has the two sums; where its frame is to be named, class, id and length of the head follow
abbrev pub wrong : Bool → ℕ → ℕ → ℕ → ℕ → ℕ → List ℕ
wrong false class id n expect got = sums expect got ++ ascii "\n"
wrong true class id n expect got = sums expect got ++ ubx class id n

-- a wrong parity's line has the two parities
abbrev pub wrong_parity : ℕ → ℕ → ℕ → ℕ → List ℕ
wrong_parity before p expect got = here before p ++ compared " parity expect " 6 expect got ++ ascii "\n"
