-- The turns that a step passes in silence, as the loop of `seek` makes them.
use mathlib.Core.Path.{◌≡◌, refl, sym, ap, ◌∙◌}
use mathlib.Core.Bool.{false}
use mathlib.Core.List.{List, [], ◌∷◌}
use Prim.Native.Nat.{ℕ, suc, ◌+◌, ◌-◌, ◌≤◌, ◌<◌}
use native.Mathlib.Nat.{add-zero}
use native.Mathlib.Omega.{arith}
use lib.ListN.{length, drop, length-drop, drop_of_length-le}
use lib.Seq.{drop-drop}
use Rattle.window.specs.declared.Mode.{Mode}
use Rattle.window.specs.Pick.{pick}
use Rattle.window.proofs.Pick.{by_pick}
use Rattle.window.specs.Sync.{is_sync, first_sync, first}
use Rattle.claim.specs.declared.Verdict.TheVariants.{Wait}
use Rattle.look.specs.declared.Why.{Why, TheVariants.{NoSync}}
use Rattle.look.specs.declared.Sight.TheVariants.{Pass, Say}
use Rattle.look.specs.Rules.{far, look}
use Rattle.look.specs.Moves.{step_move}
use Rattle.seek.specs.Passed.{move_at, Passed, turn}
use Rattle.look.proofs.Within.{move_in}

module _ (mode : Mode) (max cap u : ℕ) (W : List ℕ) where
  -- a byte of noise
  noise_at : (k b : ℕ) (bs : List ℕ) → drop k W ≡ b ∷ bs → is_sync mode b ≡ false → move_at mode max cap u W k ≡ Pass NoSync
  unfolding step_move look pick
  noise_at k b bs e t = rw (e, t)

  -- the bytes before the first sync byte are passed
  noise_before : (L : List ℕ) (k : ℕ) → drop k W ≡ L → Passed mode max cap u W k → Passed mode max cap u W (k + first_sync mode L)
  unfolding first
  noise_before [] k e p = rw add-zero p
  noise_before (b ∷ bs) k e p =
      by_pick (λ n. Passed mode max cap u W (k + n))
      (λ _. rw add-zero p)
      (λ t.
      let q : Passed mode max cap u W (suc k) = turn k (suc k) NoSync p (noise_at k b bs e t) (omega arith) in
      let d : drop (suc k) W ≡ bs = ap (λ (n : ℕ). drop n W) (let z : suc k ≡ k + 1 = omega arith in z) ∙ sym (drop-drop 1 k W) ∙ rw e in
      let r : suc k + first_sync mode bs ≡ k + suc (first_sync mode bs) = omega arith in
      rw r at (noise_before bs (suc k) d q))

  pub pass_noise : (k : ℕ) → Passed mode max cap u W k → Passed mode max cap u W (k + first_sync mode (drop k W))
  pass_noise k p = noise_before (drop k W) k refl p

  -- the end of the window needs more
  pub at_end : (k : ℕ) → length W ≤ k → move_at mode max cap u W k ≡ Say (Wait 0)
  unfolding step_move look
  at_end k h = rw (drop_of_length-le W h)

  -- a turn more stays within the window
  pub pass_turn : (k : ℕ) (y : Why) → k ≤ length W → Passed mode max cap u W k → move_at mode max cap u W k ≡ Pass y
      → (0 < far y) × (k + far y ≤ length W) × Passed mode max cap u W (k + far y)
  pass_turn k y h p e =
      let inn : (0 < far y) × (far y ≤ length (drop k W)) = rw e at (move_in mode max cap (u - k) (drop k W)) in
      (inn.0, omega (arith, inn.1, length-drop k W), turn k (k + far y) y p e refl)

  -- and the noise behind it
  pub pass_on : (k : ℕ) (y : Why) → k ≤ length W → Passed mode max cap u W k → move_at mode max cap u W k ≡ Pass y
      → (0 < far y) × (k + far y ≤ length W) × Passed mode max cap u W (k + far y + first_sync mode (drop (k + far y) W))
  pass_on k y h p e = let q = pass_turn k y h p e in (q.0, q.1, pass_noise (k + far y) q.2)
