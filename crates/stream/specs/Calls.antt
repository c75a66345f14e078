-- Calls of the five operations, and what a caller has and hears after each. What a call answers, hands back and writes is what
-- its contract says.
use Rattle.std.specs.Prelude.{ℕ, ◌+◌, Bool, List, [], ◌∷◌, ◌++◌, length}
use Rattle.window.specs.declared.Mode.{Mode}
use Rattle.state.specs.declared.State.{State}
use Rattle.taking.specs.declared.Place.{Place}
use Rattle.taking.specs.View.{may_view, view}
use Rattle.framer.specs.declared.Answer.{Answer, TheVariants.{UbxFrame, RtcmFrame, Sentence, WrongSum, NoRoom, NeedMore, Refused, WrongParity}}
use Rattle.opening.specs.Operations.{CloseOut, start, opening, closing}
use Rattle.framer.specs.Step.{StepOut, step}
use Rattle.framer.specs.Reached.{is_denied, is_refused}
use Rattle.stream.specs.Scan.{Event, ubx_frame, rtcm_frame, sentence, wrong_sum, wrong_parity, no_room}

-- a parser: its state, the bytes of the carry lent to it, and what its closes so far reported as used
pub record Parser : Type 0 where
  pub state : State
  pub carry : List ℕ
  pub base : ℕ

-- an argument of a call: the parser's own, or any other
pub data Arg (A : Type 0) : Type 0 where
  own : Arg A
  other : A → Arg A

-- what the call is given, where the parser has x; and what the parser has after it, where the call leaves y
abbrev pub given : {A : Type 0} → A → Arg A → A
given x own = x
given x (other a) = a

abbrev pub regained : {A : Type 0} → A → Arg A → A → A
regained x own y = y
regained x (other a) y = x

-- the state, the carry, and the rest of the arguments
pub data Call : Type 0 where
  starts : Arg (List ℕ) → Mode → ℕ → Call
  opens : Arg State → Arg (List ℕ) → List ℕ → Call
  steps : Arg State → Arg (List ℕ) → List ℕ → Call
  closes : Arg State → Arg (List ℕ) → List ℕ → Call
  views : Arg (List ℕ) → List ℕ → Place → Call

module _ (p : Parser) where
  abbrev pub step_given : Arg State → Arg (List ℕ) → List ℕ → StepOut
  step_given s m chunk = step (given p.state s) (given p.carry m) chunk

  abbrev pub close_given : Arg State → Arg (List ℕ) → List ℕ → CloseOut
  close_given s m chunk = closing (given p.state s) (given p.carry m) chunk

-- the parser after a call; what a start gives is another parser's state
unfoldable pub after : Call → Parser → Parser
after (starts m mode max) p = p
after (opens s m chunk) p = record { state = regained p.state s (opening (given p.state s) (given p.carry m) chunk).state; carry = p.carry; base = p.base }
after (steps s m chunk) p =
    let r = step_given p s m chunk in
    record { state = regained p.state s r.result.state; carry = regained p.carry m r.carry; base = p.base }
after (closes s m chunk) p =
    let r = close_given p s m chunk in
    record { state = regained p.state s r.result.state; carry = regained p.carry m r.carry; base = p.base + r.result.used }
after (views m chunk place) p = p

-- 01: need more and refusals left out; a stream position adds what earlier closes reported as used; a body is the bytes viewed when handed out
abbrev pub heard : ℕ → (Place → List ℕ) → Answer → List Event
heard base sight (UbxFrame class id p place) = record { at = base + p; said = ubx_frame class id (sight place) } ∷ []
heard base sight (RtcmFrame p place) = record { at = base + p; said = rtcm_frame (sight place) } ∷ []
heard base sight (Sentence p place) = record { at = base + p; said = sentence (sight place) } ∷ []
heard base sight (WrongSum class id n p expect got) = record { at = base + p; said = wrong_sum class id n expect got } ∷ []
heard base sight (NoRoom p size) = record { at = base + p; said = no_room size } ∷ []
heard base sight NeedMore = []
heard base sight (Refused r) = []
heard base sight (WrongParity p expect got) = record { at = base + p; said = wrong_parity expect got } ∷ []

unfoldable pub hears : Call → Parser → List Event
hears (starts m mode max) p = []
hears (opens s m chunk) p = []
hears (steps s m chunk) p = let r = step_given p s m chunk in heard p.base (view r.carry chunk) r.result.answer
hears (closes s m chunk) p = []
hears (views m chunk place) p = []

-- the bytes that a close reports as lost
unfoldable pub loses : Call → Parser → ℕ
loses (starts m mode max) p = 0
loses (opens s m chunk) p = 0
loses (steps s m chunk) p = 0
loses (closes s m chunk) p = (close_given p s m chunk).result.lost
loses (views m chunk place) p = 0

unfoldable pub refused : Call → Parser → Bool
refused (starts m mode max) p = is_denied (start mode max (length (given p.carry m))).leave
refused (opens s m chunk) p = is_denied (opening (given p.state s) (given p.carry m) chunk).leave
refused (steps s m chunk) p = is_refused (step_given p s m chunk).result.answer
refused (closes s m chunk) p = is_denied (close_given p s m chunk).result.leave
refused (views m chunk place) p = is_denied (may_view (given p.carry m) chunk place)

-- ---- calls one after the other: the parser at the end, all that was heard, all that was lost

abbrev pub after_all : List Call → Parser → Parser
after_all [] p = p
after_all (k ∷ ks) p = after_all ks (after k p)

abbrev pub hears_all : List Call → Parser → List Event
hears_all [] p = []
hears_all (k ∷ ks) p = hears k p ++ hears_all ks (after k p)

abbrev pub loses_all : List Call → Parser → ℕ
loses_all [] p = 0
loses_all (k ∷ ks) p = loses k p + loses_all ks (after k p)
