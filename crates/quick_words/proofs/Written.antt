-- What the quick ways write is what the step leaves.
use mathlib.Core.Path.{◌≡◌}
use mathlib.Core.List.{List}
use Prim.Native.Nat.{ℕ, ◌+◌, ◌-◌, ◌<◌, min}
use native.Mathlib.Omega.{arith}
use borrow.Author.Tests.{ne_eqb, lt-leb, lt-ltb}
use Rattle.window.specs.Pick.{pick}
use Rattle.claim.specs.declared.Kind.{Kind}
use Rattle.claim.specs.declared.Verdict.TheVariants.{Hand}
use Rattle.claim.specs.Sizes.{skip, size}
use Rattle.state.specs.declared.State.{State}
use Rattle.state.specs.Words.{left_len, moved, drain}
use Rattle.taking.specs.Take.{take_grow, taking}
use Rattle.framer.specs.Step.{StepOut, hand_out, say}
use Rattle.quick_words.specs.Quickly.{Leaves}

pub leaves_by : (o p : StepOut) (before words out carry : List ℕ) → o ≡ p → Leaves p before words out carry → Leaves o before words out carry
leaves_by o p before words out carry e h = rw e h

-- what is left of the carry once k bytes are drained
left_drained : (live off k : ℕ) → live - (off + min (live - off) k) ≡ live - off - k
left_drained live off k = omega arith

-- a body on both sides is taken in behind the live bytes, where these have room for the chunk's share
module _ (s : State) (kind : Kind) (carry chunk : List ℕ) (a : skip kind < left_len s) where
  some_left : left_len (drain (skip kind) s) ≡ 0 → ⊥
  some_left = rw (left_drained s.live s.off (skip kind)) (λ e. absurd (omega arith))

  not_all : left_len s < skip kind + size kind → left_len (drain (skip kind) s) < size kind
  not_all b = rw (left_drained s.live s.off (skip kind)) (omega arith)

  room : skip kind + size kind - left_len s < s.cap - s.live → size kind - left_len (drain (skip kind) s) < s.cap - s.live
  room r =
      let e : size kind - (left_len s - skip kind) ≡ skip kind + size kind - left_len s = omega arith in
      rw (left_drained s.live s.off (skip kind), e) r

  pub hands_grow : left_len s < skip kind + size kind → skip kind + size kind - left_len s < s.cap - s.live
      → say s carry chunk (Hand kind) ≡ hand_out s.used kind (take_grow (moved s s.live (s.off + skip kind) s.part (s.used + skip kind)) carry chunk (size kind))
  unfolding taking pick
  hands_grow b r =
      let f : s.off + min (left_len s) (skip kind) ≡ s.off + skip kind = omega arith in
      let p : s.part + (skip kind - left_len s) ≡ s.part = omega arith in
      rw (ne_eqb _ _ some_left, lt-leb _ _ (not_all b), lt-ltb _ _ (room r), f, p)
