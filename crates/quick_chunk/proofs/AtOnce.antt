-- A granted opening, a granted step and a granted close, by what they come to.
use Rattle.std.specs.Prelude.{Ok}
use mathlib.Core.Path.{◌≡◌}
use mathlib.Core.Bool.{true}
use mathlib.Core.List.{List}
use Prim.Native.Nat.{ℕ, ◌+◌, ◌-◌, ◌≤◌, ◌<◌, min}
use native.Mathlib.Nat.{zero-add}
use native.Mathlib.Omega.{arith}
use lib.ListN.{length, get_or}
use borrow.Author.Tests.{lt-ltb, le-ltb}
use Rattle.window.specs.Pick.{pick}
use Rattle.window.specs.Sync.{is_sync, first_sync}
use Rattle.state.specs.declared.State.{State}
use Rattle.state.specs.Words.{window, width}
use Rattle.state.specs.Refusals.{may_open, may_use}
use Rattle.state.proofs.Window.{drain_zero}
use Rattle.state.proofs.Granted.{open_granted}
use Rattle.opening.specs.Operations.{noted, open_on, opening, close_on, closing}
use Rattle.opening.proofs.Ready.{noted_ready}
use Rattle.framer.specs.Step.{step_from, step}
use Rattle.opening.proofs.Slices.{syncs_at_once}

module _ (s : State) (carry chunk : List ℕ) where
  pub closes_well : may_use s (length carry) (length chunk) ≡ Ok tt → closing s carry chunk ≡ close_on s carry chunk (Ok tt)
  unfolding closing
  closes_well g = rw g

  pub steps_well : may_use s (length carry) (length chunk) ≡ Ok tt → step s carry chunk ≡ step_from s carry chunk
  unfolding step
  steps_well g = rw g

  module _ (g : may_open s (length carry) (length chunk) ≡ Ok tt) where
    pub opens_well : opening s carry chunk ≡ open_on s carry chunk (Ok tt)
    unfolding opening
    opens_well = rw g

    -- the state made open, with i bytes of the chunk used up
    abbrev used_up : ℕ → State
    used_up i = record { mode = s.mode; max = s.max; cap = s.cap; live = s.live; off = s.off; used = i; «open» = true; chunk = length chunk; part = i }

    -- the carry's live bytes begin with a sync byte
    pub at_carry : 0 < s.live → is_sync s.mode (get_or carry 0 0) ≡ true → (opening s carry chunk).state ≡ used_up 0
    unfolding pick
    at_carry h e =
        let o = noted s (length chunk) in
        let r = noted_ready s carry chunk (open_granted s carry chunk g) in
        let z = r.0 in
        let b : is_sync s.mode (get_or carry s.off 0) ≡ true = rw z e in
        let i = syncs_at_once o carry chunk r.1.sane (omega arith) b in
        let w : 0 < width o = omega arith in
        rw (opens_well, i, lt-ltb 0 (width o) w, drain_zero o)

    module _ (none : s.live ≡ 0) where
      -- the window is the chunk
      whole : first_sync s.mode (window (noted s (length chunk)) carry chunk) ≡ first_sync s.mode chunk
      whole =
          let z = (noted_ready s carry chunk (open_granted s carry chunk g)).0 in
          rw (z, none)

      -- it has no sync byte
      pub at_nothing : length chunk ≡ first_sync s.mode chunk → (opening s carry chunk).state ≡ used_up 0
      unfolding pick
      at_nothing e =
          let o = noted s (length chunk) in
          let w : width o ≤ first_sync s.mode chunk = omega arith in
          rw (opens_well, whole, le-ltb (first_sync s.mode chunk) (width o) w)

      -- its first sync byte stands at i
      pub at_chunk : (i : ℕ) → i ≡ first_sync s.mode chunk → i < length chunk → (opening s carry chunk).state ≡ used_up i
      unfolding pick
      at_chunk i e h =
          let o = noted s (length chunk) in
          let z = (noted_ready s carry chunk (open_granted s carry chunk g)).0 in
          let w : i < width o = omega arith in
          let a : s.off + min (s.live - s.off) i ≡ s.off = omega arith in
          let b : 0 + (i - (s.live - s.off)) ≡ i = omega arith in
          rw (opens_well, whole, ← e, lt-ltb i (width o) w, a, b, zero-add)
