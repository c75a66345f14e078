-- 01, "One step": repeat while w > 0, until something is said.
use Rattle.std.specs.Prelude.{ℕ, zero, suc, List, length, Result, Ok, Err, ⊤}
use Rattle.state.specs.declared.Refusal.{Refusal}
use Rattle.claim.specs.declared.Kind.{Kind, TheVariants.{Ubx, Rtcm, Sentence as KindSentence}}
use Rattle.claim.specs.declared.Tale.{Tale, TheVariants.{WrongSum as TaleWrongSum, WrongParity as TaleWrongParity, NoRoom as TaleNoRoom}}
use Rattle.claim.specs.declared.Verdict.{Verdict, TheVariants.{Wait, Tell, Hand}}
use Rattle.claim.specs.Sizes.{skip, size}
use Rattle.claim.specs.Verdicts.{cost}
use Rattle.look.specs.declared.Sight.{Sight, TheVariants.{Pass, Say}}
use Rattle.look.specs.Rules.{far}
use Rattle.look.specs.Moves.{step_move}
use Rattle.state.specs.declared.State.{State}
use Rattle.state.specs.Words.{left_len, window, width, drain}
use Rattle.state.specs.Refusals.{may_use}
use Rattle.taking.specs.declared.Place.{Place}
use Rattle.taking.specs.Take.{TakeOut, taking}
use Rattle.framer.specs.declared.Answer.{Answer, TheVariants.{UbxFrame, RtcmFrame, Sentence, WrongSum, NoRoom, NeedMore, Refused, WrongParity}}
use Rattle.framer.specs.declared.Stepped.{Stepped}

pub record StepOut : Type 0 where
  pub result : Stepped
  pub carry : List ℕ

abbrev pub out : Answer → State → List ℕ → StepOut
out a s carry = record { result = record { answer = a; state = s }; carry = carry }

-- a frame, and an answer that hands out no bytes, at position p: that is `used` at its sync byte
abbrev pub frame_at : Kind → ℕ → Place → Answer
frame_at (Ubx class id n) p place = UbxFrame class id p place
frame_at (Rtcm n parity) p place = RtcmFrame p place
frame_at (KindSentence i) p place = Sentence p place

abbrev pub tale_at : Tale → ℕ → Answer
tale_at (TaleWrongSum class id n expect got) p = WrongSum class id n p expect got
tale_at (TaleWrongParity expect got) p = WrongParity p expect got
tale_at (TaleNoRoom drain size) p = NoRoom p size

abbrev pub hand_out : ℕ → Kind → TakeOut → StepOut
hand_out p kind t = out (frame_at kind p t.result.place) t.result.state t.carry

-- what is said: drain k, need more; an answer, and its cost drained; a frame, once what stands before its body is drained
abbrev pub say : State → List ℕ → List ℕ → Verdict → StepOut
say s carry chunk (Wait k) = out NeedMore (drain k s) carry
say s carry chunk (Tell t) = out (tale_at t s.used) (drain (cost t) s) carry
say s carry chunk (Hand kind) = hand_out s.used kind (taking (drain (skip kind) s) carry chunk (size kind))

-- what stands at the window's front is said, or is passed and the step repeats: `again k` is the next turn, after draining k
abbrev pub act : State → List ℕ → List ℕ → Sight → (ℕ → StepOut) → StepOut
act s carry chunk (Pass y) again = again (far y)
act s carry chunk (Say v) again = say s carry chunk v

abbrev pub move_of : State → List ℕ → List ℕ → Sight
move_of s carry chunk = step_move s.mode s.max s.cap (left_len s) (window s carry chunk)

abbrev pub step_by : ℕ → State → List ℕ → List ℕ → StepOut
step_by zero s carry chunk = out NeedMore s carry
step_by (suc turns) s carry chunk = act s carry chunk (move_of s carry chunk) (λ k. step_by turns (drain k s) carry chunk)

-- each turn but the last drains a byte at least, so w + 1 turns are enough
abbrev pub step_from : State → List ℕ → List ℕ → StepOut
step_from s carry chunk = step_by (suc (width s)) s carry chunk

abbrev pub step_on : State → List ℕ → List ℕ → Result ⊤ Refusal → StepOut
step_on s carry chunk (Err r) = out (Refused r) s carry
step_on s carry chunk (Ok tt) = step_from s carry chunk

unfoldable pub step : State → List ℕ → List ℕ → StepOut
step s carry chunk = step_on s carry chunk (may_use s (length carry) (length chunk))
