-- A frame all of which lies on one side is handed out where it lies, and the carry stays as it is.
use mathlib.Core.Path.{◌≡◌}
use mathlib.Core.Bool.{true, false}
use mathlib.Core.List.{List}
use mathlib.Core.Logic.{⊎_elim}
use Prim.Native.Nat.{ℕ, ◌+◌, ◌-◌, ◌≤◌, ◌<◌, min}
use native.Mathlib.Omega.{arith}
use borrow.Author.Tests.{eq-eqb, ne_eqb, le-leb}
use Rattle.window.specs.Pick.{pick}
use Rattle.claim.specs.declared.Kind.{Kind, TheVariants.{Ubx, Rtcm, Sentence}}
use Rattle.claim.specs.declared.Verdict.TheVariants.{Hand}
use Rattle.claim.specs.Sizes.{skip, size}
use Rattle.seek.specs.OneSide.{OnOneSide}
use Rattle.state.specs.declared.State.{State}
use Rattle.state.specs.Words.{left_len, moved, drain}
use Rattle.taking.specs.declared.Side.{Side, TheVariants.{Carry, Chunk}}
use Rattle.taking.specs.Take.{taking}
use Rattle.framer.specs.Step.{StepOut, out, frame_at, say}

-- where the carry has bytes, the side is the carry
pub in_carry : (s : State) (kind : Kind) → s.off ≤ s.live → (s.live ≡ s.off → ⊥) → OnOneSide (left_len s) kind → skip kind + size kind ≤ left_len s
in_carry s kind o ne side = ⊎_elim (λ e. absurd (ne (omega arith))) (λ h. h) side

some_size : (kind : Kind) → 0 < size kind
some_size (Ubx class id n) = omega arith
some_size (Rtcm n true) = omega arith
some_size (Rtcm n false) = omega arith
some_size (Sentence i) = omega arith

module _ (s : State) (kind : Kind) (carry chunk : List ℕ) where
  abbrev pub handed : Side → ℕ → ℕ → ℕ → StepOut
  handed side start off part =
      out (frame_at kind s.used (record { side = side; start = start; len = size kind }))
      (moved s s.live off part (s.used + (skip kind + size kind))) carry

  pub hands_chunk : left_len s ≡ 0 → say s carry chunk (Hand kind) ≡ handed Chunk (s.part + skip kind) s.off (s.part + skip kind + size kind)
  unfolding taking pick
  hands_chunk e =
      let z : left_len (drain (skip kind) s) ≡ 0 = omega arith in
      let o : s.off + min (left_len s) (skip kind) ≡ s.off = omega arith in
      let p : s.part + (skip kind - left_len s) ≡ s.part + skip kind = omega arith in
      let u : s.used + skip kind + size kind ≡ s.used + (skip kind + size kind) = omega arith in
      rw (eq-eqb _ _ z, o, p, u)

  pub hands_carry : skip kind + size kind ≤ left_len s → say s carry chunk (Hand kind) ≡ handed Carry (s.off + skip kind) (s.off + skip kind + size kind) s.part
  unfolding taking pick
  hands_carry h =
      let n : left_len (drain (skip kind) s) ≡ 0 → ⊥ = λ e. absurd (omega (arith, some_size kind)) in
      let l : size kind ≤ left_len (drain (skip kind) s) = omega arith in
      let o : s.off + min (left_len s) (skip kind) ≡ s.off + skip kind = omega arith in
      let p : s.part + (skip kind - left_len s) ≡ s.part = omega arith in
      let u : s.used + skip kind + size kind ≡ s.used + (skip kind + size kind) = omega arith in
      rw (ne_eqb _ _ n, le-leb _ _ l, o, p, u)
