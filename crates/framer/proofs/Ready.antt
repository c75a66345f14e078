-- What a step's part is told: a body that is handed out has room.
use mathlib.Core.List.{List}
use Prim.Native.Nat.{ℕ, ◌≤◌}
use native.Mathlib.Omega.{arith}
use Rattle.claim.specs.declared.Kind.{Kind}
use Rattle.claim.specs.declared.Verdict.TheVariants.{Hand}
use Rattle.claim.specs.Sizes.{skip, size}
use Rattle.look.specs.Within.{Says}
use Rattle.state.specs.declared.State.{State}
use Rattle.state.specs.Words.{left_len, width, drain}
use Rattle.state.specs.Ready.{Ready, Room}
use Rattle.state.proofs.Granted.{drain_ready}

module _ (s : State) (carry chunk : List ℕ) where
  -- where the hand-out test passed, the body can be taken once what stands before it is drained
  pub room_of : Ready s carry chunk → (kind : Kind) → Says s.cap (left_len s) (width s) (Hand kind)
      → Ready (drain (skip kind) s) carry chunk × Room (drain (skip kind) s) (size kind)
  room_of r kind h =
      let k : skip kind ≤ width s = omega (arith, h.1) in
      let o = r.sane.offs in
      let p = r.sane.parts in (
        drain_ready s carry chunk r (skip kind) k,
        record { all = omega (arith, h.1); fits = λ a b. h.2 (omega (arith, a)) (omega (arith, b)) },
      )
