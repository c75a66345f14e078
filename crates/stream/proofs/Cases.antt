-- What holds of each kind of frame and of each tale, shown case by case. The laws of scans and runs cite these and name no case.
use mathlib.Core.Path.{◌≡◌, refl}
use mathlib.Core.Bool.{true, false}
use mathlib.Core.List.{List, [], ◌∷◌}
use Prim.Native.Nat.{ℕ, ◌+◌, ◌≤◌}
use native.Mathlib.Omega.{arith}
use lib.ListN.{length, drop, length-drop}
use lib.Seq.{length-take-le}
use Rattle.window.proofs.Pick.{by_pick}
use Rattle.claim.specs.declared.Kind.{Kind, TheVariants.{Ubx, Rtcm, Sentence}}
use Rattle.claim.specs.declared.Tale.{Tale, TheVariants.{WrongSum, WrongParity, NoRoom}}
use Rattle.claim.specs.declared.Verdict.{Verdict, TheVariants.{Wait, Tell, Hand}}
use Rattle.claim.specs.Sizes.{around}
use Rattle.look.specs.declared.Sight.TheVariants.{Say}
use Rattle.look.specs.Moves.{judge}
use Rattle.look.specs.Within.{whole}
use Rattle.taking.specs.declared.Place.{Place}
use Rattle.framer.specs.Step.{frame_at, tale_at}
use Rattle.framer.specs.Reached.{is_need_more, is_refused}
use Rattle.stream.specs.Scan.{frame_said, tale_said, body}
use Rattle.stream.specs.Calls.{heard}
use Rattle.stream.specs.Demand.{is_no_room}
use Rattle.stream.specs.Frames.{span}
use Rattle.stream.proofs.Walks.{ends}

-- ---- a frame's answer, and a tale's: what is heard of it; it is neither need more nor a refusal

pub frame_heard : (base p : ℕ) (sight : Place → List ℕ) (kind : Kind) (place : Place)
    → (heard base sight (frame_at kind p place) ≡ record { at = base + p; said = frame_said kind (sight place) } ∷ []) × (is_need_more (frame_at kind p place) ≡ false)
frame_heard base p sight (Ubx class id n) place = (refl, refl)
frame_heard base p sight (Rtcm n parity) place = (refl, refl)
frame_heard base p sight (Sentence i) place = (refl, refl)

pub frame_granted : (kind : Kind) (p : ℕ) (place : Place) → is_refused (frame_at kind p place) ≡ false
frame_granted (Ubx class id n) p place = refl
frame_granted (Rtcm n parity) p place = refl
frame_granted (Sentence i) p place = refl

pub tale_heard : (base p : ℕ) (sight : Place → List ℕ) (t : Tale)
    → (heard base sight (tale_at t p) ≡ record { at = base + p; said = tale_said t } ∷ []) × (is_need_more (tale_at t p) ≡ false)
tale_heard base p sight (WrongSum class id n expect got) = (refl, refl)
tale_heard base p sight (WrongParity expect got) = (refl, refl)
tale_heard base p sight (NoRoom drain size) = (refl, refl)

pub tale_granted : (t : Tale) (p : ℕ) → is_refused (tale_at t p) ≡ false
tale_granted (WrongSum class id n expect got) p = refl
tale_granted (WrongParity expect got) p = refl
tale_granted (NoRoom drain size) p = refl

-- ---- what a whole frame's bytes decide: it ends no scan, and it is not no room

pub judge_ends : (kind : Kind) (W : List ℕ) → ends (Say (judge kind W)) ≡ false
unfolding judge
judge_ends (Ubx class id n) W = by_pick (λ v. ends (Say v) ≡ false) (λ _. refl) (λ _. refl)
judge_ends (Rtcm n true) W = by_pick (λ v. ends (Say v) ≡ false) (λ _. refl) (λ _. refl)
judge_ends (Rtcm n false) W = refl
judge_ends (Sentence i) W = refl

-- no answer of a scan is no room
abbrev pub Plain : Verdict → Type 0
Plain (Wait k) = Unit {0}
Plain (Tell t) = is_no_room (tale_said t) ≡ false
Plain (Hand kind) = Unit {0}

pub judge_plain : (kind : Kind) (W : List ℕ) → Plain (judge kind W)
unfolding judge
judge_plain (Ubx class id n) W = by_pick Plain (λ _. tt) (λ _. refl)
judge_plain (Rtcm n true) W = by_pick Plain (λ _. tt) (λ _. refl)
judge_plain (Rtcm n false) W = tt
judge_plain (Sentence i) W = tt

pub frame_plain : (kind : Kind) (body : List ℕ) → is_no_room (frame_said kind body) ≡ false
frame_plain (Ubx class id n) body = refl
frame_plain (Rtcm n parity) body = refl
frame_plain (Sentence i) body = refl

-- ---- a frame that is handed out takes up the bytes that the scan goes on by

pub span_whole : (kind : Kind) (W : List ℕ) → whole kind ≤ length W → span (frame_said kind (body kind W)) ≡ whole kind
span_whole (Ubx class id n) W h = omega (arith, length-take-le (n + 2) (drop 6 W) (rw length-drop (omega arith)))
span_whole (Rtcm n parity) W h = omega (arith, length-take-le (n + around parity) W (omega arith))
span_whole (Sentence i) W h = omega (arith, length-take-le (i + 2) W (omega arith))
