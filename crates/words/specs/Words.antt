-- The words in which a state and an answer cross to C: include/orgnevis.h says the same to a C programmer.
use Rattle.std.specs.Prelude.{ℕ, Bool, true, false, List, [], ◌∷◌, get_or, replicate, ltb, eqb, Option, Some, None}
use Rattle.std.proofs.lemmas.List.Edits.{sets}
use Rattle.window.specs.declared.Mode.{Mode, TheVariants.{One, Two, Three}}
use Rattle.window.specs.Pick.{pick}
use Rattle.state.specs.declared.State.{State}
use Rattle.state.specs.Refusals.{any_of, refusal_no, leave_no}
use Rattle.taking.specs.declared.Place.{Place}
use Rattle.framer.specs.declared.Answer.{Answer, TheVariants.{UbxFrame, RtcmFrame, Sentence, WrongSum, NoRoom, NeedMore, Refused, WrongParity}}
use Rattle.opening.specs.declared.Closed.{Closed}
use Rattle.framer.specs.Answers.{side_no}

-- ---- a state: nine words, in the order of the header; those after them are left as they are

-- with parity 16 is added
abbrev pub mode_no : Mode → ℕ
mode_no (One false) = 1
mode_no (Two false) = 2
mode_no (Three false) = 3
mode_no (One true) = 17
mode_no (Two true) = 18
mode_no (Three true) = 19

abbrev pub open_no : Bool → ℕ
open_no true = 1
open_no false = 0

abbrev pub state_words : State → List ℕ
state_words s = mode_no s.mode ∷ s.max ∷ s.cap ∷ s.live ∷ s.off ∷ s.used ∷ open_no s.«open» ∷ s.chunk ∷ s.part ∷ []

-- stored from word 0 on
abbrev pub with_state : State → List ℕ → List ℕ
with_state s words = sets words 0 (state_words s)

-- the words that an opening, a step and a close change
abbrev pub opened_words : State → List ℕ → List ℕ
opened_words s words = sets words 4 (s.off ∷ s.used ∷ 1 ∷ s.chunk ∷ s.part ∷ [])

abbrev pub stepped_words : State → List ℕ → List ℕ
stepped_words s words = sets (sets words 3 (s.live ∷ s.off ∷ s.used ∷ [])) 8 (s.part ∷ [])

abbrev pub closed_words : ℕ → List ℕ → List ℕ
closed_words kept words = sets words 3 (kept ∷ 0 ∷ 0 ∷ 0 ∷ 0 ∷ 0 ∷ [])

-- the mode of a number, if it is one's
abbrev pub read_mode : ℕ → Option Mode
read_mode n =
    pick (eqb n 1) (Some (One false))
    (pick (eqb n 2) (Some (Two false))
    (pick (eqb n 3) (Some (Three false))
    (pick (eqb n 17) (Some (One true))
    (pick (eqb n 18) (Some (Two true))
    (pick (eqb n 19) (Some (Three true))
    None)))))

-- words that no state has, whatever its mode: MAX over 65,535, open not 0 or 1
abbrev pub max_or_open_too_big : List ℕ → Bool
max_or_open_too_big words = any_of (ltb 65535 (get_or words 1 0) ∷ ltb 1 (get_or words 6 0) ∷ [])

abbrev pub state_by : Mode → List ℕ → State
state_by mode words = record {
  mode = mode;
  max = get_or words 1 0;
  cap = get_or words 2 0;
  live = get_or words 3 0;
  off = get_or words 4 0;
  used = get_or words 5 0;
  «open» = eqb (get_or words 6 0) 1;
  chunk = get_or words 7 0;
  part = get_or words 8 0;
}

abbrev pub state_in : List ℕ → Option Mode → Option State
state_in words None = None
state_in words (Some mode) = Some (state_by mode words)

unfoldable pub read_state : List ℕ → Option State
read_state words = pick (max_or_open_too_big words) None (state_in words (read_mode (get_or words 0 0)))

-- ---- a step's answer: eight words

abbrev pub frame_words : ℕ → ℕ → ℕ → ℕ → Place → List ℕ
frame_words number p class id place = number ∷ p ∷ class ∷ id ∷ side_no place.side ∷ place.start ∷ place.len ∷ 0 ∷ []

abbrev pub plain_words : ℕ → ℕ → ℕ → ℕ → List ℕ
plain_words number p x y = number ∷ p ∷ x ∷ y ∷ 0 ∷ 0 ∷ 0 ∷ 0 ∷ []

-- the two sums, then class, id and length of the head
abbrev pub wrong_words : ℕ → ℕ → ℕ → ℕ → ℕ → ℕ → List ℕ
wrong_words p class id n expect got = 4 ∷ p ∷ expect ∷ got ∷ class ∷ id ∷ n ∷ 0 ∷ []

abbrev pub answer_words : Answer → List ℕ
answer_words (UbxFrame class id p place) = frame_words 1 p class id place
answer_words (RtcmFrame p place) = frame_words 2 p 0 0 place
answer_words (Sentence p place) = frame_words 3 p 0 0 place
answer_words (WrongSum class id n p expect got) = wrong_words p class id n expect got
answer_words (NoRoom p size) = plain_words 5 p size 0
answer_words NeedMore = plain_words 6 0 0 0
answer_words (Refused r) = plain_words 7 0 (refusal_no r) 0
answer_words (WrongParity p expect got) = plain_words 8 p expect got

-- ---- a close's report: sixteen words

abbrev pub report_words : ℕ → ℕ → ℕ → ℕ → List ℕ
report_words number used kept lost = number ∷ used ∷ kept ∷ lost ∷ replicate 12 0

abbrev pub close_words : Closed → List ℕ
close_words r = report_words (leave_no r.leave) r.used r.kept r.lost
