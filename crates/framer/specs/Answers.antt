-- 01, "Language forms": the number and the values of each answer. 01 numbers the refusals; the answers' numbers follow the
-- order in which "Forms that must change" names them. 02, Ticket 4, adds the last.
use Rattle.std.specs.Prelude.{ℕ, List, [], ◌∷◌}
use Rattle.state.specs.Refusals.{refusal_no}
use Rattle.taking.specs.declared.Side.{Side, TheVariants.{Carry, Chunk}}
use Rattle.taking.specs.declared.Place.{Place}
use Rattle.framer.specs.declared.Answer.{Answer, TheVariants.{UbxFrame, RtcmFrame, Sentence, WrongSum, NoRoom, NeedMore, Refused, WrongParity}}

abbrev pub side_no : Side → ℕ
side_no Carry = 0
side_no Chunk = 1

abbrev pub place_values : Place → List ℕ
place_values p = side_no p.side ∷ p.start ∷ p.len ∷ []

abbrev pub number : Answer → ℕ
number (UbxFrame class id p place) = 1
number (RtcmFrame p place) = 2
number (Sentence p place) = 3
number (WrongSum class id n p expect got) = 4
number (NoRoom p size) = 5
number NeedMore = 6
number (Refused r) = 7
number (WrongParity p expect got) = 8

-- position first, where there is one
abbrev pub values : Answer → List ℕ
values (UbxFrame class id p place) = p ∷ class ∷ id ∷ place_values place
values (RtcmFrame p place) = p ∷ place_values place
values (Sentence p place) = p ∷ place_values place
values (WrongSum class id n p expect got) = p ∷ expect ∷ got ∷ class ∷ id ∷ n ∷ []
values (NoRoom p size) = p ∷ size ∷ []
values NeedMore = []
values (Refused r) = refusal_no r ∷ []
values (WrongParity p expect got) = p ∷ expect ∷ got ∷ []
