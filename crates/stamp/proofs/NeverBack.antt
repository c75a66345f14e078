-- Stamps that never run back.
use mathlib.Core.Path.{◌≡◌, refl, ap, ◌∙◌}
use mathlib.Core.Bool.{Bool}
use mathlib.Core.List.{List, [], ◌∷◌, ◌++◌}
use Prim.Native.Nat.{ℕ, ◌+◌, ◌-◌, ◌<◌}
use native.Mathlib.Omega.{arith}
use Rattle.std.specs.Prelude.{Option, Some, Result, Ok}
use Rattle.taking.specs.declared.Place.{Place}
use Rattle.taking.specs.View.{view}
use Rattle.framer.specs.declared.Answer.{Answer, TheVariants.{UbxFrame, RtcmFrame, Sentence, WrongSum, NoRoom, NeedMore, Refused as AnswerRefused, WrongParity}}
use Rattle.stream.specs.Scan.{Event}
use Rattle.stream.specs.Calls.{Parser, Call, starts, opens, steps, closes, views, step_given, after, heard as eventsOf, hears, hears_all}
use Rattle.stream.specs.Demand.{fresh}
use Rattle.stream.proofs.Demand.{every_cutting_gives_the_scan}
use Rattle.stamp.specs.declared.Fault.{Fault}
use Rattle.stamp.specs.declared.Reading.{Reading, TheVariants.{BackBy}}
use Rattle.stamp.specs.declared.Heard.{Heard}
use Rattle.stamp.specs.Message.{fields_of}
use Rattle.stamp.specs.Stamp.{stamp_of, read}
use Rattle.stamp.specs.Step.{tells, step}
use Rattle.stamp.specs.NeverBack.{readings, stamps, last_of, RiseFrom, floor, StampsNeverFall, TheLastOneStays, BackIsTrue, frames_in, tidings, told, told_all, StepIsTheFramers, StampsNeverRunBack}
use Rattle.stamp.proofs.Outcomes.{Outcome, not_this, not_valid, outside, handed, back, outcome}

-- ---- any sequence of frames

-- one reading, and what rises after it
rise_on : (clock : Option ℕ) {this valid ranged : Bool} {t : ℕ} {h : Heard} (rs : List (Result Reading Fault)) → Outcome clock this valid ranged t h
    → RiseFrom (floor h.clock) (stamps rs) → RiseFrom (floor clock) (stamps (h.reading ∷ rs))
rise_on clock rs (not_this a) r = r
rise_on clock rs (not_valid a b) r = r
rise_on clock rs (outside a b c) r = r
rise_on clock rs (handed a b c low) r = (low, r)
rise_on clock rs (back a b c l e low) r = r

pub stamps_never_fall : StampsNeverFall
stamps_never_fall clock [] = tt
stamps_never_fall clock (p ∷ ps) =
    let h = read clock p.class p.id p.bytes in
    rise_on clock (readings h.clock ps) (outcome clock p.class p.id p.bytes) (stamps_never_fall h.clock ps)

last_on : (clock : Option ℕ) {this valid ranged : Bool} {t : ℕ} {h : Heard} (rs : List (Result Reading Fault)) → Outcome clock this valid ranged t h
    → last_of h.clock (stamps rs) ≡ last_of clock (stamps (h.reading ∷ rs))
last_on clock rs (not_this a) = refl
last_on clock rs (not_valid a b) = refl
last_on clock rs (outside a b c) = refl
last_on clock rs (handed a b c low) = refl
last_on clock rs (back a b c l e low) = refl

pub the_last_one_stays : TheLastOneStays
the_last_one_stays clock [] = refl
the_last_one_stays clock (p ∷ ps) =
    let h = read clock p.class p.id p.bytes in
    the_last_one_stays h.clock ps ∙ last_on clock (readings h.clock ps) (outcome clock p.class p.id p.bytes)

back_from : (clock : Option ℕ) {this valid ranged : Bool} (t : ℕ) {h : Heard} (d : ℕ) → Outcome clock this valid ranged t h → h.reading ≡ Ok (BackBy d)
    → (last : ℕ) × (clock ≡ Some last) × (0 < d) × (t + d ≡ last)
back_from clock t d (not_this a) q = cc
back_from clock t d (not_valid a b) q = cc
back_from clock t d (outside a b c) q = cc
back_from clock t d (handed a b c low) q = cc
back_from clock t d (back a b c l e low) q = let z : l - t ≡ d = cc in (l, e, omega arith, omega arith)

pub back_is_true : BackIsTrue
back_is_true clock class id payload d q = back_from clock (stamp_of (fields_of payload)) d (outcome clock class id payload) q

-- ---- a whole stream

-- what an answer tells, and what is heard of it
told_on : (clock : Option ℕ) (base : ℕ) (sight : Place → List ℕ) (a : Answer) (es : List Event)
    → told (tells clock sight a).told ++ readings (tells clock sight a).clock (frames_in es) ≡ readings clock (frames_in (eventsOf base sight a ++ es))
told_on clock base sight (UbxFrame class id p place) es = refl
told_on clock base sight (RtcmFrame p place) es = refl
told_on clock base sight (Sentence p place) es = refl
told_on clock base sight (WrongSum class id n p expect got) es = refl
told_on clock base sight (NoRoom p size) es = refl
told_on clock base sight NeedMore es = refl
told_on clock base sight (AnswerRefused r) es = refl
told_on clock base sight (WrongParity p expect got) es = refl

call_tells : (k : Call) (clock : Option ℕ) (p : Parser) (es : List Event)
    → told (tidings k clock p).told ++ readings (tidings k clock p).clock (frames_in es) ≡ readings clock (frames_in (hears k p ++ es))
unfolding tidings hears step
call_tells (starts m mode max) clock p es = refl
call_tells (opens s m chunk) clock p es = refl
call_tells (steps s m chunk) clock p es =
    let r = step_given p s m chunk in
    told_on clock p.base (view r.carry chunk) r.result.answer es
call_tells (closes s m chunk) clock p es = refl
call_tells (views m chunk place) clock p es = refl

-- so calls tell the frames that are heard
all_told : (ks : List Call) (clock : Option ℕ) (p : Parser) → told_all ks clock p ≡ readings clock (frames_in (hears_all ks p))
all_told [] clock p = refl
all_told (k ∷ ks) clock p =
    ap (λ (rs : List (Result Reading Fault)). told (tidings k clock p).told ++ rs) (all_told ks (tidings k clock p).clock (after k p))
    ∙ call_tells k clock p (hears_all ks (after k p))

pub step_is_the_framers : StepIsTheFramers
unfolding step
step_is_the_framers clock s carry chunk = (refl, refl, refl)

pub stamps_never_run_back : StampsNeverRunBack
stamps_never_run_back mode max carry roomy h calls chunks f clock =
    let p = fresh mode max carry in
    let heard = (every_cutting_gives_the_scan mode max carry roomy h calls chunks f).answers in
    let e = all_told calls clock p in
    record {
      same = ap stamps e ∙ ap (λ (es : List Event). stamps (readings clock (frames_in es))) heard;
      rise = rw e (stamps_never_fall clock (frames_in (hears_all calls p)));
    }
