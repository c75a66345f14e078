-- Two outcomes that one contract allows are the same.
use mathlib.Core.Path.{◌≡◌, refl, sym, ap, ◌∙◌}
use mathlib.Core.List.{List, [], ◌∷◌}
use Prim.Native.Nat.{ℕ}
use lib.ListN.{get_or}
use Rattle.taking.specs.declared.Side.{Side, TheVariants.{Carry, Chunk}}
use Rattle.taking.specs.declared.Place.{Place}
use Rattle.opening.proofs.Determined.{refusal_by, refusal_back}
use Rattle.framer.specs.declared.Answer.{Answer, TheVariants.{UbxFrame, RtcmFrame, Sentence, WrongSum, NoRoom, NeedMore, Refused, WrongParity}}
use Rattle.framer.specs.declared.Stepped.{Stepped}
use Rattle.framer.specs.Step.{StepOut}
use Rattle.framer.specs.Answers.{side_no, number, values}
use Rattle.framer.specs.Promises.{Steps}

-- ---- a number and values are those of one answer only: each is read back

abbrev side_by : ℕ → Side
side_by n = get_or (Carry ∷ []) n Chunk

side_back : (s : Side) → side_by (side_no s) ≡ s
side_back Carry = refl
side_back Chunk = refl

abbrev place_by : List ℕ → ℕ → ℕ → ℕ → Place
place_by vs side start len = record { side = side_by (get_or vs side 0); start = get_or vs start 0; len = get_or vs len 0 }

abbrev answers_by : List ℕ → List Answer
answers_by vs =
    NeedMore
    ∷ UbxFrame (get_or vs 1 0) (get_or vs 2 0) (get_or vs 0 0) (place_by vs 3 4 5)
    ∷ RtcmFrame (get_or vs 0 0) (place_by vs 1 2 3)
    ∷ Sentence (get_or vs 0 0) (place_by vs 1 2 3)
    ∷ WrongSum (get_or vs 3 0) (get_or vs 4 0) (get_or vs 5 0) (get_or vs 0 0) (get_or vs 1 0) (get_or vs 2 0)
    ∷ NoRoom (get_or vs 0 0) (get_or vs 1 0)
    ∷ NeedMore
    ∷ Refused (refusal_by (get_or vs 0 0))
    ∷ []

abbrev answer_by : ℕ → List ℕ → Answer
answer_by n vs = get_or (answers_by vs) n (WrongParity (get_or vs 0 0) (get_or vs 1 0) (get_or vs 2 0))

answer_back : (a : Answer) → answer_by (number a) (values a) ≡ a
answer_back (UbxFrame class id p place) = rw (side_back place.side)
answer_back (RtcmFrame p place) = rw (side_back place.side)
answer_back (Sentence p place) = rw (side_back place.side)
answer_back (WrongSum class id n p expect got) = refl
answer_back (NoRoom p size) = refl
answer_back NeedMore = refl
answer_back (WrongParity p expect got) = refl
answer_back (Refused r) = ap Refused (refusal_back r)

pub same_answer : (a b : Answer) → number a ≡ number b → values a ≡ values b → a ≡ b
same_answer a b n v = sym (answer_back a) ∙ rw (n, v) (answer_back b)

-- ---- what each contract promises is one outcome, so two that it allows are the same

pub steps_is : (is : StepOut) (r : Stepped) (carry : List ℕ) → Steps is r carry → (r ≡ is.result) × (carry ≡ is.carry)
steps_is is r carry h = (rw (same_answer r.answer is.result.answer h.number h.values, h.state), h.bytes)

pub steps_determined : (is : StepOut) (r q : Stepped) (c d : List ℕ) → Steps is r c → Steps is q d → (r ≡ q) × (c ≡ d)
steps_determined is r q c d h k =
    let a = steps_is is r c h in
    let b = steps_is is q d k in
    (a.0 ∙ sym b.0, a.1 ∙ sym b.1)

-- a view's contract is the equality itself
pub view_determined : (is r q : List ℕ) → r ≡ is → q ≡ is → r ≡ q
view_determined is r q h k = h ∙ sym k
