-- A step of the framer, and what its answer tells a clock.
use Rattle.std.specs.Prelude.{ℕ, ◌-◌, List, length, take, Option, None, Some}
use Rattle.state.specs.declared.State.{State}
use Rattle.taking.specs.declared.Place.{Place}
use Rattle.taking.specs.View.{view}
use Rattle.framer.specs.declared.Answer.{Answer, TheVariants.{UbxFrame, RtcmFrame, Sentence, WrongSum, NoRoom, NeedMore, Refused, WrongParity}}
use Rattle.framer.specs.Step.{StepOut, step as frameStep}
use Rattle.stamp.specs.declared.Heard.{Heard}
use Rattle.stamp.specs.declared.News.{News}
use Rattle.stamp.specs.declared.Timed.{Timed}
use Rattle.stamp.specs.Stamp.{read}

-- a body without its two check bytes
abbrev pub payload_of : List ℕ → List ℕ
payload_of body = take (length body - 2) body

abbrev pub nothing : Option ℕ → News
nothing clock = record { told = None; clock = clock }

abbrev pub frame : Heard → News
frame h = record { told = Some h.reading; clock = h.clock }

-- a UBX frame's payload is read, where a place shows these bytes; any other answer tells nothing
abbrev pub tells : Option ℕ → (Place → List ℕ) → Answer → News
tells clock sight (UbxFrame class id p place) = frame (read clock class id (payload_of (sight place)))
tells clock sight (RtcmFrame p place) = nothing clock
tells clock sight (Sentence p place) = nothing clock
tells clock sight (WrongSum class id n p expect got) = nothing clock
tells clock sight (NoRoom p size) = nothing clock
tells clock sight NeedMore = nothing clock
tells clock sight (Refused r) = nothing clock
tells clock sight (WrongParity p expect got) = nothing clock

pub record TimedOut : Type 0 where
  pub result : Timed
  pub carry : List ℕ

abbrev pub timed : Option ℕ → List ℕ → StepOut → TimedOut
timed clock chunk out =
    let news = tells clock (view out.carry chunk) out.result.answer in
    record { result = record { answer = out.result.answer; told = news.told; clock = news.clock; state = out.result.state }; carry = out.carry }

-- the framer's step, and what it tells
unfoldable pub step : Option ℕ → State → List ℕ → List ℕ → TimedOut
step clock s carry chunk = timed clock chunk (frameStep s carry chunk)
