-- What a step's wrong sum or wrong parity names stands in the window, at the answer's position.
use Rattle.std.specs.Prelude.{Result, Ok, Err, ⊤}
use Rattle.state.specs.declared.Refusal.{Refusal}
use mathlib.Core.Path.{◌≡◌, refl, sym}
use mathlib.Core.Bool.{true}
use mathlib.Core.List.{List}
use Prim.Native.Nat.{ℕ, zero, suc, ◌+◌, ◌-◌, ◌/◌, ◌≤◌}
use native.Mathlib.Omega.{arith}
use lib.ListN.{length, get_or, take, drop}
use lib.Seq.{drop-drop}
use Rattle.window.specs.declared.Mode.{Mode}
use Rattle.window.specs.Sync.{has_parity, is_sync}
use Rattle.claim.specs.declared.Kind.TheVariants.{Ubx, Rtcm, Sentence as KindSentence}
use Rattle.claim.specs.declared.Tale.TheVariants.{WrongSum as TaleWrongSum, WrongParity as TaleWrongParity, NoRoom as TaleNoRoom}
use Rattle.claim.specs.declared.Verdict.{Verdict, TheVariants.{Wait, Tell, Hand}}
use Rattle.look.specs.declared.Sight.{Sight, TheVariants.{Pass, Say}}
use Rattle.look.specs.Rules.{far}
use Rattle.look.specs.Within.{Moves}
use Rattle.state.specs.declared.State.{State}
use Rattle.state.specs.Words.{left_len, window, width, drain}
use Rattle.state.specs.Refusals.{may_use}
use Rattle.state.specs.Ready.{Sane}
use Rattle.state.proofs.Window.{window_drain, drain_sane}
use Rattle.state.proofs.Granted.{use_granted}
use Rattle.framer.specs.declared.Answer.{Answer, TheVariants.{UbxFrame, RtcmFrame, Sentence, WrongSum, NoRoom, NeedMore, Refused, WrongParity}}
use Rattle.framer.specs.Step.{StepOut, say, act, move_of, step_by, step_on, step}
use Rattle.framer.proofs.Account.{moves_in}
use Rattle.stream.specs.Interface.{WrongFrame, Bytes}
use Rattle.stream.specs.Frames.{WrongSumsStand}
use Rattle.stream.specs.Rtcm.{WrongRtcm}
use Rattle.stream.specs.RtcmFrames.{WrongParitiesStand}
use Rattle.stream.proofs.OnlyGood.{bytes_on}
use Rattle.stream.proofs.Interface.{step_wrong_at}
use Rattle.stream.proofs.Headed.{step_tells}
use Rattle.stream.proofs.Transport.{stands_wrong}

-- what each of the two names, at the front of W
abbrev Sum : ℕ → ℕ → ℕ → ℕ → ℕ → ℕ → List ℕ → Type 0
Sum max class id n expect got W = (payload : List ℕ) × WrongFrame max W class id payload expect got × (length payload ≡ n)

abbrev Parity : Mode → ℕ → ℕ → List ℕ → Type 0
Parity mode expect got W = (is_sync mode 0xD3 ≡ true) × (has_parity mode ≡ true) × (reserved : ℕ) × (message : List ℕ) × WrongRtcm W reserved message expect got

module _ (carry chunk : List ℕ) where
  -- of the window from position p on
  abbrev From : State → ℕ → (List ℕ → Type 0) → Type 0
  From s p Q = (s.used ≤ p) × Q (drop (p - s.used) (window s carry chunk))

  abbrev Stands : State → Answer → Type 0
  Stands s (UbxFrame class id p place) = Unit {0}
  Stands s (RtcmFrame p place) = Unit {0}
  Stands s (Sentence p place) = Unit {0}
  Stands s (WrongSum class id n p expect got) = From s p (Sum s.max class id n expect got)
  Stands s (NoRoom p size) = Unit {0}
  Stands s NeedMore = Unit {0}
  Stands s (Refused r) = Unit {0}
  Stands s (WrongParity p expect got) = From s p (Parity s.mode expect got)

  abbrev OutStands : State → StepOut → Type 0
  OutStands s o = Stands s o.result.answer

  module _ (s : State) (bytes : Bytes (window s carry chunk)) where
    at_front : (Q : List ℕ → Type 0) → Q (window s carry chunk) → From s s.used Q
    at_front Q q = let none : s.used - s.used ≡ 0 = omega arith in (omega arith, rw none q)

    -- where it is said, it stands at the front
    said_stands : (v : Verdict) → move_of s carry chunk ≡ Say v → OutStands s (say s carry chunk v)
    said_stands (Wait k) m = tt
    said_stands (Tell (TaleWrongSum class id n expect got)) m =
        at_front (Sum s.max class id n expect got) (step_wrong_at s.mode s.max (window s carry chunk) s.cap (left_len s) bytes class id n expect got m)
    said_stands (Tell (TaleWrongParity expect got)) m =
        let W = window s carry chunk in
        let (n, h, w, ex, eg, ne) = rw m at (step_tells s.mode s.max s.cap (left_len s) W) in
        at_front (Parity s.mode expect got) (h.reads, sym h.setting, get_or W 1 0 / 4, take n (drop 3 W), stands_wrong W bytes n h.front h.counts w expect got ex eg ne)
    said_stands (Tell (TaleNoRoom k l)) m = tt
    said_stands (Hand (Ubx class id n)) m = tt
    said_stands (Hand (Rtcm n parity)) m = tt
    said_stands (Hand (KindSentence i)) m = tt

  -- what stands after k bytes are drained stood there before
  module _ (s : State) (ok : Sane s carry chunk) (k : ℕ) where
    from_drained : (p : ℕ) (Q : List ℕ → Type 0) → From (drain k s) p Q → From s p Q
    from_drained p Q (le, q) =
        let d : k + (p - (s.used + k)) ≡ p - s.used = omega arith in
        let e : drop (p - (s.used + k)) (window (drain k s) carry chunk) ≡ drop (p - s.used) (window s carry chunk) =
        rw (window_drain s carry chunk ok k, drop-drop (p - (s.used + k)) k (window s carry chunk), d) in
        (omega (arith, le), rw e at q)

    drained_stands : (a : Answer) → Stands (drain k s) a → Stands s a
    drained_stands (UbxFrame class id p place) h = tt
    drained_stands (RtcmFrame p place) h = tt
    drained_stands (Sentence p place) h = tt
    drained_stands (WrongSum class id n p expect got) h = from_drained p (Sum s.max class id n expect got) h
    drained_stands (NoRoom p size) h = tt
    drained_stands NeedMore h = tt
    drained_stands (Refused r) h = tt
    drained_stands (WrongParity p expect got) h = from_drained p (Parity s.mode expect got) h

  act_stands : (s : State) → Sane s carry chunk → Bytes (window s carry chunk) → (m : Sight) → move_of s carry chunk ≡ m → Moves s.cap (left_len s) (width s) m
      → (again : ℕ → StepOut) → ((k : ℕ) → k ≤ width s → OutStands (drain k s) (again k)) → OutStands s (act s carry chunk m again)
  act_stands s ok bytes (Say v) e i again ih = said_stands s bytes v e
  act_stands s ok bytes (Pass y) e i again ih = drained_stands s ok (far y) (again (far y)).result.answer (ih (far y) i.1)

  turns_stand : (turns : ℕ) (s : State) → Sane s carry chunk → Bytes (window s carry chunk) → OutStands s (step_by turns s carry chunk)
  turns_stand zero s ok bytes = tt
  turns_stand (suc f) s ok bytes =
      act_stands s ok bytes (move_of s carry chunk) refl (moves_in chunk s carry ok) (λ k. step_by f (drain k s) carry chunk)
      (λ k l. turns_stand f (drain k s) (drain_sane s carry chunk ok k l) (rw (window_drain s carry chunk ok k) (bytes_on (window s carry chunk) k bytes)))

  on_stands : (s : State) (l : Result ⊤ Refusal) → may_use s (length carry) (length chunk) ≡ l → Bytes (window s carry chunk) → OutStands s (step_on s carry chunk l)
  on_stands s (Err r) e bytes = tt
  on_stands s (Ok tt) e bytes = turns_stand (suc (width s)) s (use_granted s carry chunk e).ready.sane bytes

  -- one law for both
  step_stands : (s : State) → Bytes (window s carry chunk) → OutStands s (step s carry chunk)
  unfolding step
  step_stands s bytes = on_stands s (may_use s (length carry) (length chunk)) refl bytes

pub wrong_sums_stand : WrongSumsStand
wrong_sums_stand s carry chunk bytes class id n p expect got h = let (le, (payload, w, len)) = rw h at (step_stands carry chunk s bytes) in (le, payload, w, len)

pub wrong_parities_stand : WrongParitiesStand
wrong_parities_stand s carry chunk bytes p expect got h =
    let (le, (reads, parity, reserved, message, w)) = rw h at (step_stands carry chunk s bytes) in
    (le, reads, parity, reserved, message, w)
