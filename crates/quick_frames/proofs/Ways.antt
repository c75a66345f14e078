-- The ways that a step goes where a frame is claimed at the window's front.
use mathlib.Core.Path.{◌≡◌, refl, ap, ◌∙◌}
use mathlib.Core.Bool.{true, and-false}
use mathlib.Core.Logic.{◌⊎◌, ⊎_elim, inl, inr}
use mathlib.Core.List.{List, [], ◌∷◌}
use Prim.Native.Nat.{ℕ, ◌+◌, ◌-◌, ◌≤◌, ◌<◌}
use native.Mathlib.Omega.{arith}
use lib.ListN.{length, get_or, take, drop}
use borrow.Author.Tests.{eq-eqb, ne_eqb, le-ltb}
use Rattle.sum.specs.declared.Sums.{Sums}
use Rattle.sum.specs.Sum.{sum_of, pair_of}
use Rattle.window.specs.Pick.{pick}
use Rattle.window.specs.Sync.{is_sync}
use Rattle.claim.specs.declared.Kind.{Kind, TheVariants.{Ubx}}
use Rattle.claim.specs.declared.Tale.TheVariants.{WrongSum}
use Rattle.claim.specs.declared.Verdict.{Verdict, TheVariants.{Wait, Tell, Hand}}
use Rattle.claim.specs.Sizes.{skip, size}
use Rattle.claim.specs.Verdicts.{judge_sum}
use Rattle.look.specs.declared.Sight.TheVariants.{Say}
use Rattle.look.specs.Rules.{claim}
use Rattle.look.specs.Moves.{judge, settled}
use Rattle.look.proofs.Rules.{judged}
use Rattle.seek.specs.OneSide.{first_of, Begins, OnOneSide}
use Rattle.seek.proofs.OneSide.{begins_both, begins_at, begins_long, frame_judged, settles, settles_not, settles_fitting}
use Rattle.state.specs.declared.State.{State}
use Rattle.state.specs.Words.{left, left_len, ahead, window, width}
use Rattle.state.specs.Ready.{Ready}
use Rattle.state.proofs.Window.{left_length, ahead_length, window_length}
use Rattle.framer.specs.Step.{say, move_of, step_from}
use Rattle.framer.proofs.Slices.{begins_window}
use Rattle.framer.proofs.Turns.{says_step}

some_bytes : (f : List ℕ) → (length f ≡ 0 → ⊥) → 0 < length f
some_bytes [] h = absurd (h refl)
some_bytes (x ∷ f) h = omega arith

-- ---- the first side that has bytes

module _ (s : State) (carry chunk : List ℕ) (r : Ready s carry chunk) where
  pub begins_first : Begins (first_of (left s carry) (ahead s chunk)) (window s carry chunk) (left_len s) (width s)
  begins_first = rw (left_length s carry chunk r.sane, ahead_length s carry chunk r.sane) at (begins_both (left s carry) (ahead s chunk))

  pub first_begins : (f : List ℕ) → f ≡ first_of (left s carry) (ahead s chunk) → Begins f (window s carry chunk) (left_len s) (width s)
  first_begins f e = rw e begins_first

  -- and that side has all that is left of the carry
  pub first_short : (f : List ℕ) → f ≡ first_of (left s carry) (ahead s chunk) → left_len s ≤ length f
  first_short f e = rw (e, ← left_length s carry chunk r.sane) (go (left s carry))
    where
      go : (a : List ℕ) → length a ≤ length (first_of a (ahead s chunk))
      go [] = omega arith
      go (x ∷ a) = omega arith

  -- where it has no bytes there are none; where it has, its first is the window's
  pub first_none : (f : List ℕ) → f ≡ first_of (left s carry) (ahead s chunk) → length f ≡ 0 → width s ≡ 0
  first_none f e z = rw (← left_length s carry chunk r.sane, ← ahead_length s carry chunk r.sane) (go (left s carry) (rw e at z))
    where
      go : (a : List ℕ) → length (first_of a (ahead s chunk)) ≡ 0 → length a + length (ahead s chunk) ≡ 0
      go [] h = omega (arith, h)
      go (x ∷ a) h = absurd (omega arith)

  pub first_sync : (f : List ℕ) → f ≡ first_of (left s carry) (ahead s chunk) → (length f ≡ 0 → ⊥) → (width s ≡ 0) ⊎ (is_sync s.mode (get_or (window s carry chunk) 0 0) ≡ true)
      → is_sync s.mode (get_or f 0 0) ≡ true
  first_sync f e some front =
      let b = first_begins f e in
      let l = begins_long f (window s carry chunk) (left_len s) (width s) b in
      let w = window_length s carry chunk r.sane in
      ⊎_elim (λ z. absurd (some (omega arith))) (λ h. rw (begins_at f (window s carry chunk) (left_len s) (width s) b 0 (some_bytes f some)) h) front

  -- what that side has all of lies there
  pub on_first : (f : List ℕ) → f ≡ first_of (left s carry) (ahead s chunk) → (kind : Kind) → skip kind + size kind ≤ length f → OnOneSide (left_len s) kind
  on_first f e kind l = rw (left_length s carry chunk r.sane) at (go (left s carry) (rw e at l))
    where
      go : (a : List ℕ) → skip kind + size kind ≤ length (first_of a (ahead s chunk)) → (length a ≡ 0) ⊎ (skip kind + size kind ≤ length a)
      go [] h = inl refl
      go (x ∷ a) h = inr h

  -- and the other way round
  in_first : (kind : Kind) → skip kind + size kind ≤ width s → OnOneSide (left_len s) kind → skip kind + size kind ≤ length (first_of (left s carry) (ahead s chunk))
  in_first kind l side = go (left s carry) (left_length s carry chunk r.sane)
    where
      go : (a : List ℕ) → length a ≡ left_len s → skip kind + size kind ≤ length (first_of a (ahead s chunk))
      go [] e = rw (ahead_length s carry chunk r.sane) (omega arith)
      go (x ∷ a) e = ⊎_elim (λ z. absurd (omega arith)) (λ h. omega arith) side

-- ---- what is said of a frame that is claimed

module _ (s : State) (carry chunk : List ℕ) (r : Ready s carry chunk) (kind : Kind)
    (m : move_of s carry chunk ≡ settled s.cap (left_len s) (window s carry chunk) (claim kind)) where
  says : (v : Verdict) → settled s.cap (left_len s) (window s carry chunk) (claim kind) ≡ Say v → step_from s carry chunk ≡ say s carry chunk v
  says v e = says_step carry chunk s r.sane v (m ∙ e)

  -- the window is shorter, and fits the carry
  pub waits : width s < skip kind + size kind → width s ≤ s.cap → step_from s carry chunk ≡ say s carry chunk (Wait 0)
  waits l room =
      says (Wait 0)
      (settles_not _ _ _ _ (begins_window s carry chunk r.sane) s.cap kind l ∙ rw (le-ltb s.cap (width s) room))

  -- it lies on one side
  pub judges_here : skip kind + size kind ≤ width s → OnOneSide (left_len s) kind → step_from s carry chunk ≡ say s carry chunk (judge kind (window s carry chunk))
  judges_here l side =
      says (judge kind (window s carry chunk)) (settles _ _ _ _ (begins_first s carry chunk r) s.cap kind (in_first s carry chunk r kind l side))

  -- its body fits the carry
  pub judges_fitting : skip kind + size kind ≤ width s → size kind ≤ s.cap → step_from s carry chunk ≡ say s carry chunk (judge kind (window s carry chunk))
  judges_fitting l room = says (judge kind (window s carry chunk)) (settles_fitting _ _ _ _ (begins_window s carry chunk r.sane) s.cap kind l room)

-- ---- what the sum decides

module _ (x y : ℕ) (got : Sums) (class id n : ℕ) where
  pub sum_right : x ≡ got.a → y ≡ got.b → judge_sum x y got class id n ≡ Hand (Ubx class id n)
  unfolding pick
  sum_right a b = rw (eq-eqb _ _ a, eq-eqb _ _ b)

  pub sum_wrong : (x ≡ got.a → ⊥) ⊎ (y ≡ got.b → ⊥) → judge_sum x y got class id n ≡ Tell (WrongSum class id n (pair_of x y) (pair_of got.a got.b))
  unfolding pick
  sum_wrong = ⊎_elim (λ ne. rw (ne_eqb _ _ ne)) (λ ne. rw (ne_eqb _ _ ne, and-false))

module _ (s : State) (carry chunk : List ℕ) (r : Ready s carry chunk) (class id n : ℕ)
    (m : move_of s carry chunk ≡ settled s.cap (left_len s) (window s carry chunk) (claim (Ubx class id n))) where
  -- on one side, by the bytes of the side that has all of the frame
  pub decides_here : (f : List ℕ) → f ≡ first_of (left s carry) (ahead s chunk) → n + 8 ≤ length f → (got : Sums) → got ≡ sum_of (take (6 + n - 2) (drop 2 f))
      → step_from s carry chunk ≡ say s carry chunk (judge_sum (get_or f (6 + n) 0) (get_or f (6 + n + 1) 0) got class id n)
  decides_here f e l got eg =
      says s carry chunk r (Ubx class id n) m _ (frame_judged f (window s carry chunk) (left_len s) (width s) (first_begins s carry chunk r f e) s.cap class id n l)
      ∙ rw eg

  -- on both sides, by the window's
  pub decides_across : (x y : ℕ) (got : Sums) → n + 8 ≤ width s → n + 2 ≤ s.cap
      → x ≡ get_or (window s carry chunk) (6 + n) 0 → y ≡ get_or (window s carry chunk) (6 + n + 1) 0
      → got ≡ sum_of (take (6 + n - 2) (drop 2 (window s carry chunk)))
      → step_from s carry chunk ≡ say s carry chunk (judge_sum x y got class id n)
  decides_across x y got l room ex ey eg =
      judges_fitting s carry chunk r (Ubx class id n) m (omega arith) (omega arith)
      ∙ ap (say s carry chunk) (judged class id n x y got (window s carry chunk) ex ey eg)
