-- Laws of the window, and of draining it.
use mathlib.Core.Path.{◌≡◌, sym, ap, ◌∙◌}
use Prim.Native.Nat.{ℕ, zero, suc, ◌+◌, ◌-◌, ◌≤◌, min}
use mathlib.Core.List.{List, [], ◌∷◌, ◌++◌}
use native.Mathlib.Omega.{arith}
use native.Mathlib.Nat.{add-zero, zero-sub, sub-zero, suc-sub-suc, min-zero, suc-min-suc}
use lib.ListN.{length, take, drop, length-drop, length-append}
use lib.Seq.{drop-drop, length-take-le, take-nil, drop-nil}
use Rattle.carry.specs.Carry.{drain_carry}
use Rattle.carry.proofs.Laws.{drop_take}
use Rattle.window.specs.declared.Mode.{Mode}
use Rattle.state.specs.declared.State.{State}
use Rattle.state.specs.Words.{left, left_len, ahead, window, width, drain}
use Rattle.state.specs.Ready.{Sane}

-- ---- lists

pub drop_both : (k : ℕ) (A B : List ℕ) → drop k (A ++ B) ≡ drop k A ++ drop (k - length A) B
drop_both zero A B = rw zero-sub
drop_both (suc k) [] B = rw sub-zero
drop_both (suc k) (x ∷ A) B = rw suc-sub-suc (drop_both k A B)

pub take_both : (k : ℕ) (A B : List ℕ) → take k (A ++ B) ≡ take k A ++ take (k - length A) B
take_both zero A B = rw zero-sub
take_both (suc k) [] B = rw sub-zero
take_both (suc k) (x ∷ A) B = rw suc-sub-suc (ap (λ (r : List ℕ). x ∷ r) (take_both k A B))

pub drop_min : (A : List ℕ) (k : ℕ) → drop (min (length A) k) A ≡ drop k A
drop_min [] k = simp drop-nil
drop_min (x ∷ A) zero = rw min-zero
drop_min (x ∷ A) (suc k) = rw suc-min-suc (drop_min A k)

pub take_min : (A : List ℕ) (k : ℕ) → take (min (length A) k) A ≡ take k A
take_min [] k = simp take-nil
take_min (x ∷ A) zero = rw min-zero
take_min (x ∷ A) (suc k) = rw suc-min-suc (ap (λ (r : List ℕ). x ∷ r) (take_min A k))

-- the slice `&carry[off..live]` is what is left of the carry
pub left_part : (l : List ℕ) (off live : ℕ) → off ≤ live → take (live - off) (drop off l) ≡ drop off (take live l)
left_part l off live h =
    let e : live ≡ off + (live - off) = omega arith in
    sym (ap (λ (n : ℕ). drop off (take n l)) e ∙ drop_take off (live - off) l)

-- what no call changes
pub record Setup : Type 0 where
  pub mode : Mode
  pub max : ℕ
  pub cap : ℕ

abbrev pub setup_of : State → Setup
setup_of s = record { mode = s.mode; max = s.max; cap = s.cap }

-- ---- the window of a state, and draining it

module _ (s : State) (carry chunk : List ℕ) (ok : Sane s carry chunk) where
  pub left_length : length (left s carry) ≡ left_len s
  left_length = rw (length-drop, length-take-le s.live carry (omega (arith, ok.caps, ok.lives)))

  pub ahead_length : length (ahead s chunk) ≡ s.chunk - s.part
  ahead_length = rw (length-drop, ok.chunks)

  pub window_length : length (window s carry chunk) ≡ width s
  window_length = rw (length-append, left_length, ahead_length)

  pub window_drain : (k : ℕ) → window (drain k s) carry chunk ≡ drop k (window s carry chunk)
  window_drain k =
      let e : drop (s.off + min (left_len s) k) (take s.live carry) ≡ drop k (left s carry) =
      sym (drop-drop (min (left_len s) k) s.off (take s.live carry)) ∙ rw (← left_length) (drop_min (left s carry) k) in
      rw (drop_both k (left s carry) (ahead s chunk), left_length, e, drop-drop (k - left_len s) s.part chunk)

  pub drain_sane : (k : ℕ) → k ≤ width s → Sane (drain k s) carry chunk
  drain_sane k h = record { caps = ok.caps; lives = ok.lives; offs = omega arith; parts = omega arith; chunks = ok.chunks }

  pub left_le : left_len s ≤ length carry
  left_le = omega (arith, ok.caps, ok.lives)

  -- the carry drained by off: what is left stands at its front
  pub drained_length : length (drain_carry s.off s.live carry) ≡ length carry
  drained_length = rw (length-append, left_length, length-drop) (omega (arith, left_le))

-- ---- draining twice

pub drain_zero : (s : State) → drain 0 s ≡ s
drain_zero s =
    let a : s.off + min (left_len s) 0 ≡ s.off = omega arith in
    let b : s.part + (0 - left_len s) ≡ s.part = omega arith in
    rw (a, b, add-zero)

offs_add : (live off k j n : ℕ) → k + j ≡ n → off + min (live - off) k + min (live - (off + min (live - off) k)) j ≡ off + min (live - off) n
offs_add live off k j n e = omega arith

parts_add : (live off k j n d : ℕ) → k + j ≡ n → d + (k - (live - off)) + (j - (live - (off + min (live - off) k))) ≡ d + (n - (live - off))
parts_add live off k j n d e = omega arith

pub drain_drain : (k j n : ℕ) (s : State) → k + j ≡ n → drain j (drain k s) ≡ drain n s
drain_drain k j n s e =
    let c : s.used + k + j ≡ s.used + n = omega arith in
    rw (offs_add s.live s.off k j n e, parts_add s.live s.off k j n s.part e, c)
