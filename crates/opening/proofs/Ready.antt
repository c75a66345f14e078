-- What an opening's part is told: an opened state is ready.
use mathlib.Core.Path.{◌≡◌, refl}
use mathlib.Core.List.{List}
use native.Mathlib.Omega.{arith}
use lib.ListN.{length}
use Prim.Native.Nat.{ℕ}
use Rattle.state.specs.declared.State.{State}
use Rattle.state.specs.Ready.{Ready}
use Rattle.state.proofs.Granted.{idle_zeros, Openable}
use Rattle.opening.specs.Operations.{noted}

module _ (s : State) (carry chunk : List ℕ) where
  -- an opened state's window is the carry's live bytes and the whole chunk
  pub noted_ready : Openable s carry chunk → (s.off ≡ 0) × Ready (noted s (length chunk)) carry chunk
  noted_ready h =
      let z = idle_zeros s h.closed h.sound.idles in
      let o = z.0 in
      let p = h.sound.lives in
      let q = h.sound.small in
      let f = h.fits in (
        o,
        record {
          sane = record { caps = h.sound.caps; lives = p; offs = h.sound.offs; parts = omega arith; chunks = refl };
          small = q;
          short = f;
          counts = omega arith;
        },
      )
