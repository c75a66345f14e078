-- Noise before the next sync byte is drained, and the step goes on from there.
use mathlib.Core.Path.{◌≡◌, refl, sym, ◌∙◌}
use mathlib.Core.Bool.{true}
use mathlib.Core.Logic.{◌⊎◌, inl, inr}
use mathlib.Core.List.{List, [], ◌∷◌}
use Prim.Native.Nat.{ℕ, suc, ◌+◌, ◌-◌, ◌≤◌, min}
use native.Mathlib.Nat.{zero-add}
use native.Mathlib.Omega.{arith}
use lib.ListN.{length, get_or, drop}
use Rattle.window.specs.declared.Mode.{Mode}
use Rattle.window.specs.Sync.{is_sync, first_sync, first}
use Rattle.window.proofs.Pick.{by_pick}
use Rattle.window.proofs.Laws.{first_le}
use Rattle.claim.specs.declared.Verdict.TheVariants.{Wait}
use Rattle.look.specs.Rules.{look}
use Rattle.look.specs.Moves.{step_move}
use Rattle.seek.specs.Passed.{start}
use Rattle.seek.proofs.Passed.{pass_noise}
use Rattle.state.specs.declared.State.{State}
use Rattle.state.specs.Words.{left, left_len, window, width, moved, drain}
use Rattle.state.specs.Ready.{Ready}
use Rattle.state.proofs.Window.{left_length, window_length, window_drain}
use Rattle.state.proofs.Granted.{drain_ready}
use Rattle.framer.specs.Step.{say, step_from}
use Rattle.framer.proofs.Turns.{says_step, passed_on}

-- what the first sync byte of a window leaves of it: nothing, or a sync byte in front
found : (mode : Mode) (W : List ℕ) → (length (drop (first_sync mode W) W) ≡ 0) ⊎ (is_sync mode (get_or (drop (first_sync mode W) W) 0 0) ≡ true)
unfolding first
found mode [] = inl refl
found mode (b ∷ bs) =
    by_pick (λ n. (length (drop n (b ∷ bs)) ≡ 0) ⊎ (is_sync mode (get_or (drop n (b ∷ bs)) 0 0) ≡ true))
    {x = 0} {y = suc (first_sync mode bs)}
    (λ t. inr t)
    (λ _. found mode bs)

none : (l : List ℕ) → length l ≡ 0 → l ≡ []
none [] e = refl
none (x ∷ l) e = absurd (omega arith)

module _ (s : State) (carry chunk : List ℕ) (r : Ready s carry chunk) where
  abbrev noise : ℕ
  noise = first_sync s.mode (window s carry chunk)

  pub noise_within : noise ≤ width s
  noise_within = rw (window_length s carry chunk r.sane) at (first_le (is_sync s.mode) (window s carry chunk))

  pub noise_ready : Ready (drain noise s) carry chunk
  noise_ready = drain_ready s carry chunk r noise noise_within

  -- there is nothing then, or a sync byte
  pub noise_front : (width (drain noise s) ≡ 0) ⊎ (is_sync s.mode (get_or (window (drain noise s) carry chunk) 0 0) ≡ true)
  noise_front =
      let e = window_drain s carry chunk r.sane noise in
      let l = window_length (drain noise s) carry chunk noise_ready.sane in
      rw (sym l, e) (found s.mode (window s carry chunk))

  -- and the step is the one from there
  pub noise_passed : step_from s carry chunk ≡ step_from (drain noise s) carry chunk
  noise_passed =
      (passed_on carry chunk s r.sane noise
      (rw zero-add at (pass_noise s.mode s.max s.cap (left_len s) (window s carry chunk) 0 start))).1

  -- where the carry has nothing left, the window is the chunk's rest
  module _ (e : left_len s ≡ 0) where
    pub window_ahead : window s carry chunk ≡ drop s.part chunk
    window_ahead = rw (none (left s carry) (left_length s carry chunk r.sane ∙ e))

    pub drain_ahead : (k : ℕ) → moved s s.live s.off (s.part + k) (s.used + k) ≡ drain k s
    drain_ahead k =
        let o : s.off + min (left_len s) k ≡ s.off = omega arith in
        let p : s.part + (k - left_len s) ≡ s.part + k = omega arith in
        rw (o, p)

  -- an empty window waits
  pub empty_waits : width s ≡ 0 → step_from s carry chunk ≡ say s carry chunk (Wait 0)
  unfolding step_move look
  empty_waits e =
      let z : window s carry chunk ≡ [] = none (window s carry chunk) (window_length s carry chunk r.sane ∙ e) in
      says_step carry chunk s r.sane (Wait 0) (rw z)
