-- What a close keeps: the carry then holds the window's first C bytes.
use Rattle.std.specs.Prelude.{Ok}
use mathlib.Core.Path.{◌≡◌, ◌∙◌}
use Prim.Native.Nat.{ℕ, ◌+◌, ◌-◌, ◌≤◌, min}
use mathlib.Core.List.{List}
use native.Mathlib.Omega.{arith}
use lib.ListN.{length, take, drop}
use lib.Seq.{take_at, take_all, take-paste, length-paste}
use Rattle.carry.specs.Carry.{drain_carry}
use Rattle.state.specs.declared.State.{State}
use Rattle.state.specs.Words.{left, left_len, ahead, window, width, fitting}
use Rattle.state.specs.Ready.{Sane}
use Rattle.state.proofs.Window.{take_both, take_min, left_length, ahead_length, drained_length}
use Rattle.opening.specs.Operations.{close_on}

module _ (s : State) (carry chunk : List ℕ) (ok : Sane s carry chunk) where
  pub closed_length : length (close_on s carry chunk (Ok tt)).carry ≡ length carry
  closed_length =
      length-paste (drain_carry s.off s.live carry) (left_len s) (ahead s chunk) (fitting s (left_len s))
      (rw (drained_length s carry chunk ok) (omega (arith, ok.caps, ok.lives)))
      (rw (ahead_length s carry chunk ok) (omega arith))
      ∙ drained_length s carry chunk ok

  pub closed_keeps : take (min (width s) s.cap) (close_on s carry chunk (Ok tt)).carry ≡ take s.cap (window s carry chunk)
  closed_keeps =
      let L = left s carry in
      let A = ahead s chunk in
      let u : ℕ = left_len s in
      let j : ℕ = fitting s u in
      let ll : length L ≡ u = left_length s carry chunk ok in
      let al : length A ≡ s.chunk - s.part = ahead_length s carry chunk ok in
      let carry₁ = drain_carry s.off s.live carry in
      let e : min (width s) s.cap ≡ u + j = omega (arith, ok.lives) in
      let fr : take u carry₁ ≡ L = take_at L (drop u carry) u ll in
      let tj : take j A ≡ take (s.cap - u) A = rw (← al) (take_min A (s.cap - u)) in
      let tl : take s.cap L ≡ L = take_all s.cap L (rw ll (omega (arith, ok.lives))) in
      rw (e, take-paste carry₁ u A j (rw (drained_length s carry chunk ok) (omega (arith, ok.caps, ok.lives))) (rw al (omega arith)), fr, tj, take_both s.cap L A, tl, ll)

-- what a close keeps and loses, where u bytes are left and r stand ahead
pub kept_is : (u r cap : ℕ) → u ≤ cap → u + min r (cap - u) ≡ min (u + r) cap
kept_is u r cap h = omega arith

pub lost_is : (u r cap : ℕ) → u ≤ cap → r - min r (cap - u) ≡ u + r - cap
lost_is u r cap h = omega arith
