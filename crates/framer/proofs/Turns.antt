-- A step is: pass in silence, and say what is to be said where that stops.
use mathlib.Core.Path.{◌≡◌, refl, sym, ap, ◌∙◌}
use mathlib.Core.List.{List}
use Prim.Native.Nat.{ℕ, zero, suc, ◌-◌, ◌≤◌, ◌<◌}
use native.Mathlib.Omega.{arith}
use Rattle.claim.specs.declared.Verdict.{Verdict, TheVariants.{Wait}}
use Rattle.look.specs.declared.Sight.{Sight, TheVariants.{Pass, Say}}
use Rattle.look.specs.Rules.{far}
use Rattle.look.specs.Within.{Says, Moves}
use Rattle.seek.specs.Passed.{move_at, Passed, start, turn, Stops}
use Rattle.state.specs.declared.State.{State}
use Rattle.state.specs.Words.{left_len, window, width, drain}
use Rattle.state.specs.Ready.{Sane}
use Rattle.state.proofs.Window.{window_drain, drain_sane, drain_zero, drain_drain}
use Rattle.framer.specs.declared.Answer.TheVariants.{NeedMore}
use Rattle.framer.specs.Step.{StepOut, out, say, act, move_of, step_by, step_from}
use Rattle.framer.proofs.Account.{moves_in}

module _ (carry chunk : List ℕ) where
  act_same : (s : State) (m : Sight) → Moves s.cap (left_len s) (width s) m → (f g : ℕ → StepOut)
      → ((k : ℕ) → 0 < k → k ≤ width s → f k ≡ g k) → act s carry chunk m f ≡ act s carry chunk m g
  act_same s (Pass y) h f g e = e (far y) h.0 h.1
  act_same s (Say v) h f g e = refl

  -- as many turns as there are bytes, and one more, are enough
  enough : (f g : ℕ) (s : State) → Sane s carry chunk → width s < f → width s < g → step_by f s carry chunk ≡ step_by g s carry chunk
  enough zero g s ok hf hg = absurd (omega arith)
  enough (suc f) zero s ok hf hg = absurd (omega arith)
  enough (suc f) (suc g) s ok hf hg =
      act_same s (move_of s carry chunk) (moves_in chunk s carry ok) (λ k. step_by f (drain k s) carry chunk) (λ k. step_by g (drain k s) carry chunk)
      (λ k p l. enough f g (drain k s) (drain_sane s carry chunk ok k l) (omega arith) (omega arith))

  step_turn : (s : State) → Sane s carry chunk → step_from s carry chunk ≡ act s carry chunk (move_of s carry chunk) (λ k. step_from (drain k s) carry chunk)
  step_turn s ok =
      act_same s (move_of s carry chunk) (moves_in chunk s carry ok) (λ k. step_by (width s) (drain k s) carry chunk) (λ k. step_from (drain k s) carry chunk)
      (λ k p l. enough (width s) (suc (width (drain k s))) (drain k s) (drain_sane s carry chunk ok k l) (omega arith) (omega arith))

  module _ (s : State) (ok : Sane s carry chunk) where
    -- the move of the state drained by k is the move at k
    move_drained : (k : ℕ) → move_of (drain k s) carry chunk ≡ move_at s.mode s.max s.cap (left_len s) (window s carry chunk) k
    move_drained k =
        let u : left_len (drain k s) ≡ left_len s - k = omega arith in
        rw (u, window_drain s carry chunk ok k)

    -- what is passed in silence lies in the window, and the step goes on from there
    pub passed_on : (k : ℕ) → Passed s.mode s.max s.cap (left_len s) (window s carry chunk) k
        → (k ≤ width s) × (step_from s carry chunk ≡ step_from (drain k s) carry chunk)
    passed_on k start = (omega arith, ap (λ (x : State). step_from x carry chunk) (sym (drain_zero s)))
    passed_on n (turn k _ y p e q) =
        let ih = passed_on k p in
        let sane : Sane (drain k s) carry chunk = drain_sane s carry chunk ok k ih.0 in
        let mv : move_of (drain k s) carry chunk ≡ Pass y = move_drained k ∙ e in
        let inn : (0 < far y) × (far y ≤ width (drain k s)) = rw mv at (moves_in chunk (drain k s) carry sane) in (
          omega (arith, ih.0, inn.1),
          ih.1 ∙ step_turn (drain k s) sane ∙ rw mv (ap (λ (x : State). step_from x carry chunk) (drain_drain k (far y) n s q)),
        )

    -- where nothing is passed, what is said is the step's answer; and where more is needed, it changes nothing
    pub says_step : (v : Verdict) → move_of s carry chunk ≡ Say v → step_from s carry chunk ≡ say s carry chunk v
    says_step v e = step_turn s ok ∙ rw e

    pub waits_step : move_of s carry chunk ≡ Say (Wait 0) → step_from s carry chunk ≡ out NeedMore s carry
    waits_step e = says_step (Wait 0) e ∙ ap (λ (x : State). out NeedMore x carry) (drain_zero s)

    module _ (k : ℕ) (v : Verdict) (st : Stops s.mode s.max s.cap (left_len s) (window s carry chunk) k v) where
      pub stops_within : k ≤ width s
      stops_within = (passed_on k st.passed).0

      stopped : Sane (drain k s) carry chunk
      stopped = drain_sane s carry chunk ok k stops_within

      says_there : move_of (drain k s) carry chunk ≡ Say v
      says_there = move_drained k ∙ st.there

      -- what is said there stays within the window, and is the step's answer
      pub stops_says : Says s.cap (left_len (drain k s)) (width (drain k s)) v
      stops_says = rw says_there at (moves_in chunk (drain k s) carry stopped)

      pub stops_step : step_from s carry chunk ≡ say (drain k s) carry chunk v
      stops_step = (passed_on k st.passed).1 ∙ step_turn (drain k s) stopped ∙ rw says_there
