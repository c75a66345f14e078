-- 02, Ticket 1: over any sequence, handed stamps never fall; and over a whole stream, however it is cut.
use Rattle.std.specs.Prelude.{◌≡◌, ℕ, ◌+◌, ◌≤◌, ◌<◌, List, [], ◌∷◌, ◌++◌, length, Option, None, Some, Result, Ok, Err}
use Rattle.window.specs.declared.Mode.{Mode}
use Rattle.state.specs.declared.State.{State}
use Rattle.framer.specs.Step.{step as frameStep}
use Rattle.stream.specs.Scan.{Said, ubx_frame, rtcm_frame, sentence, wrong_sum, wrong_parity, no_room, Event, scan}
use Rattle.stream.specs.Calls.{Parser, given, Call, starts, opens, steps, closes, views, after}
use Rattle.stream.specs.Runs.{between, Follows, joined}
use Rattle.stream.specs.Demand.{Roomy, fresh}
use Rattle.stamp.specs.declared.Fault.{Fault}
use Rattle.stamp.specs.declared.Reading.{Reading, TheVariants.{Stamp, BackBy}}
use Rattle.stamp.specs.declared.News.{News}
use Rattle.stamp.specs.Message.{fields_of}
use Rattle.stamp.specs.Stamp.{stamp_of, read}
use Rattle.stamp.specs.Step.{payload_of, nothing, step}

-- ---- any sequence of frames

pub record Payload : Type 0 where
  pub class : ℕ
  pub id : ℕ
  pub bytes : List ℕ

-- read in turn, each after those before it; and the clock then
abbrev pub readings : Option ℕ → List Payload → List (Result Reading Fault)
readings clock [] = []
readings clock (p ∷ ps) = let h = read clock p.class p.id p.bytes in h.reading ∷ readings h.clock ps

abbrev pub clock_after : Option ℕ → List Payload → Option ℕ
clock_after clock [] = clock
clock_after clock (p ∷ ps) = clock_after (read clock p.class p.id p.bytes).clock ps

-- the stamps handed out
abbrev pub stamps : List (Result Reading Fault) → List ℕ
stamps [] = []
stamps (Ok (Stamp t) ∷ rs) = t ∷ stamps rs
stamps (Ok (BackBy d) ∷ rs) = stamps rs
stamps (Err f ∷ rs) = stamps rs

-- the last of them, where the clock was set to some stamp before
abbrev pub last_of : Option ℕ → List ℕ → Option ℕ
last_of clock [] = clock
last_of clock (t ∷ ts) = last_of (Some t) ts

-- each is at least the one before it, and the first at least what the clock was set to
abbrev pub RiseFrom : ℕ → List ℕ → Type 0
RiseFrom low [] = Unit {0}
RiseFrom low (t ∷ ts) = (low ≤ t) × RiseFrom t ts

abbrev pub floor : Option ℕ → ℕ
floor None = 0
floor (Some t) = t

abbrev pub NeverFall : Option ℕ → List ℕ → Type 0
NeverFall clock ts = RiseFrom (floor clock) ts

-- handed stamps never fall, with refusals and steps back among them, whatever the clock was set to
abbrev pub StampsNeverFall : Type 0
StampsNeverFall = (clock : Option ℕ) (ps : List Payload) → NeverFall clock (stamps (readings clock ps))

-- the last stamp handed out stays on every answer but a stamp
abbrev pub TheLastOneStays : Type 0
TheLastOneStays = (clock : Option ℕ) (ps : List Payload) → clock_after clock ps ≡ last_of clock (stamps (readings clock ps))

-- "back by d" gives the true d
abbrev pub BackIsTrue : Type 0
BackIsTrue =
    (clock : Option ℕ) (class id : ℕ) (payload : List ℕ) (d : ℕ) → (read clock class id payload).reading ≡ Ok (BackBy d)
    → (last : ℕ) × (clock ≡ Some last) × (0 < d) × (stamp_of (fields_of payload) + d ≡ last)

-- ---- a whole stream

-- the UBX frames that were handed out: class, id, and the body without its two check bytes
abbrev pub frame_in : Said → List Payload
frame_in (ubx_frame class id body) = record { class = class; id = id; bytes = payload_of body } ∷ []
frame_in (rtcm_frame body) = []
frame_in (sentence body) = []
frame_in (wrong_sum class id n expect got) = []
frame_in (wrong_parity expect got) = []
frame_in (no_room size) = []

abbrev pub frames_in : List Event → List Payload
frames_in [] = []
frames_in (e ∷ es) = frame_in e.said ++ frames_in es

-- the stamps of a stream: of the UBX frames in its scan
abbrev pub stamps_of : Option ℕ → Mode → ℕ → List ℕ → List ℕ
stamps_of clock mode max stream = stamps (readings clock (frames_in (scan mode max stream).answers))

-- what a call tells, a step being this crate's; the others tell nothing
unfoldable pub tidings : Call → Option ℕ → Parser → News
tidings (starts m mode max) clock p = nothing clock
tidings (opens s m chunk) clock p = nothing clock
tidings (steps s m chunk) clock p =
    let r = (step clock (given p.state s) (given p.carry m) chunk).result in
    record { told = r.told; clock = r.clock }
tidings (closes s m chunk) clock p = nothing clock
tidings (views m chunk place) clock p = nothing clock

abbrev pub told : Option (Result Reading Fault) → List (Result Reading Fault)
told None = []
told (Some r) = r ∷ []

-- calls one after the other: all that was told
abbrev pub told_all : List Call → Option ℕ → Parser → List (Result Reading Fault)
told_all [] clock p = []
told_all (k ∷ ks) clock p = told (tidings k clock p).told ++ told_all ks (tidings k clock p).clock (after k p)

-- a step answers, goes on and writes as the framer's does
abbrev pub StepIsTheFramers : Type 0
StepIsTheFramers =
    (clock : Option ℕ) (s : State) (carry chunk : List ℕ)
    → ((step clock s carry chunk).result.answer ≡ (frameStep s carry chunk).result.answer)
    × ((step clock s carry chunk).result.state ≡ (frameStep s carry chunk).result.state)
    × ((step clock s carry chunk).carry ≡ (frameStep s carry chunk).carry)

-- demand 3's premises: then the stamps handed out are those of the joined stream, whatever the cutting, and never fall
pub record NeverBack (clock : Option ℕ) (mode : Mode) (max : ℕ) (handed : List ℕ) (stream : List ℕ) : Type 0 where
  pub same : handed ≡ stamps_of clock mode max stream
  pub rise : NeverFall clock handed

abbrev pub StampsNeverRunBack : Type 0
StampsNeverRunBack =
    (mode : Mode) (max : ℕ) (carry : List ℕ) → Roomy mode max (length carry) → length carry ≤ 16384
    → (calls : List Call) (chunks : List (List ℕ)) → Follows between (fresh mode max carry) calls chunks
    → (clock : Option ℕ) → NeverBack clock mode max (stamps (told_all calls clock (fresh mode max carry))) (joined chunks)
