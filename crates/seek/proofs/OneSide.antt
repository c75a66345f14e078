-- What one side of the window tells of its front, outcome by outcome, and what a head there claims.
use mathlib.Core.Path.{◌≡◌, refl, sym, ap, ◌∙◌}
use mathlib.Core.Bool.{Bool, true, false, and-false, or-true}
use mathlib.Core.List.{List, [], ◌∷◌, ◌++◌, append-nil}
use mathlib.Core.Logic.{⊎_elim, inl, inr}
use Prim.Native.Nat.{ℕ, ◌+◌, ◌-◌, ◌*◌, ◌%◌, ◌≤◌, ◌<◌}
use native.Mathlib.Omega.{arith}
use native.Mathlib.Nat.{sub-zero}
use lib.ListN.{length, get_or, take, drop, length-drop, length-append}
use lib.Seq.{drop-append-le, drop-append-add, get_or-drop, take-append-le}
use lib.Dec.{ltb}
use borrow.Author.Tests.{ltb-true, ltb-false, le-leb, lt-leb, le-ltb, eq-eqb, ne_eqb}
use Rattle.std.specs.Prelude.{Option, Some, None}
use Rattle.sum.specs.Sum.{sum_of, pair_of}
use Rattle.window.specs.declared.Mode.{Mode}
use Rattle.window.specs.Pick.{pick}
use Rattle.window.proofs.Pick.{by_pick}
use Rattle.window.specs.Sync.{has_parity, is_sync}
use Rattle.window.proofs.Laws.{from, joined_left}
use Rattle.claim.specs.declared.Kind.{Kind, TheVariants.{Ubx, Rtcm}}
use Rattle.claim.specs.declared.Verdict.TheVariants.{Hand}
use Rattle.claim.specs.Sizes.{skip, around, size, back}
use Rattle.claim.specs.Verdicts.{can_hand, judge_sum, lacks}
use Rattle.look.specs.declared.Why.TheVariants.{NotPair, OverMax}
use Rattle.look.specs.declared.Sight.{Sight, TheVariants.{Pass, Say}}
use Rattle.seek.specs.declared.Head.{Head, TheVariants.{Past, Ubx as HeadUbx, Rtcm as HeadRtcm}}
use Rattle.look.specs.Rules.{claim, look_ubx, look_rtcm, at_sync}
use Rattle.look.specs.Moves.{judge, settled, step_move}
use Rattle.seek.specs.Passed.{move_at}
use Rattle.seek.specs.OneSide.{first_of, side_from, Begins, Beside, Tells, Claimed, Heads}
use Rattle.look.proofs.Rules.{judged, judge_bare, ubx_other, ubx_over, ubx_claims, rtcm_claims, look_sync}

-- ---- the first slice that has bytes

pub first_empty : (a b : List ℕ) → length a ≡ 0 → b ≡ first_of a b
first_empty [] b h = refl
first_empty (x ∷ a) b h = absurd (omega arith)

pub first_some : (a b : List ℕ) → (length a ≡ 0 → ⊥) → a ≡ first_of a b
first_some [] b h = absurd (h refl)
first_some (x ∷ a) b h = refl

-- that slice and the second have at least as many bytes as both
pub first_long : (a b s : List ℕ) → s ≡ first_of a b → length a + length b ≤ length s + length b
first_long [] b s e = omega arith
first_long (x ∷ a) b s e = let z = ap length e in omega arith

over_first : (a b : List ℕ) (k : ℕ) → length a ≤ k → drop k (a ++ b) ≡ drop (k - length a) b
over_first a b k h = let e : k ≡ length a + (k - length a) = omega arith in ap (λ (n : ℕ). drop n (a ++ b)) e ∙ drop-append-add a b (k - length a)

-- what the window from k on begins with: where k is at most the first list's length, and where it is at least that
begins_left : (a b : List ℕ) (k : ℕ) → k ≤ length a → Begins (drop k a) (drop k (a ++ b)) (length a - k) (length a + length b - k)
begins_left a b k h = record {
  rest = b;
  joined = drop-append-le k a b h;
  width = rw (length-drop k (a ++ b), length-append a b);
  side = inl (sym (length-drop k a));
}

begins_right : (a b : List ℕ) (k : ℕ) → length a ≤ k → Begins (drop (k - length a) b) (drop k (a ++ b)) (length a - k) (length a + length b - k)
begins_right a b k h = record {
  rest = [];
  joined = over_first a b k h ∙ sym (append-nil (drop (k - length a) b));
  width = rw (length-drop k (a ++ b), length-append a b);
  side = inr (omega arith);
}

beside_left : (a b : List ℕ) (k : ℕ) → k ≤ length a → Beside (drop k a) b (drop k (a ++ b)) (length a - k)
beside_left a b k h = inr (drop-append-le k a b h, sym (length-drop k a))

begins_first : (a b : List ℕ) (k : ℕ) → k ≤ length (first_of a b) → Begins (drop k (first_of a b)) (drop k (a ++ b)) (length a - k) (length a + length b - k)
begins_first [] b k h = rw sub-zero at (begins_right [] b k (omega arith))
begins_first (x ∷ a) b k h = begins_left (x ∷ a) b k h

beside_first : (a b : List ℕ) (k : ℕ) → k ≤ length (first_of a b) → Beside (drop k (first_of a b)) b (drop k (a ++ b)) (length a - k)
beside_first [] b k h = inl refl
beside_first (x ∷ a) b k h = beside_left (x ∷ a) b k h

-- what is told of the slice from k on is told of the window from k on
pub told_there : (mode : Mode) (max cap : ℕ) (a b s : List ℕ) → s ≡ first_of a b → (k : ℕ) → k ≤ length s → (r : Option Sight)
    → ((u : ℕ) (W : List ℕ) → Begins (take (length s - k) (drop k s)) W u (length a + length b - k) → Beside (take (length s - k) (drop k s)) b W u → Tells r (step_move mode max cap u W))
    → Tells r (move_at mode max cap (length a) (a ++ b) k)
told_there mode max cap a b s e k h r f =
    let l : k ≤ length (first_of a b) = rw e at h in
    f (length a - k) (drop k (a ++ b)) (rw (from s k, e) (begins_first a b k l)) (rw (from s k, e) (beside_first a b k l))

-- ---- a window that begins with a side

-- two lists read as one begin with the first that has bytes
pub begins_both : (a b : List ℕ) → Begins (first_of a b) (a ++ b) (length a) (length a + length b)
begins_both a b = rw (sub-zero, sub-zero) at (begins_first a b 0 (omega arith))

module _ (s W : List ℕ) (u w : ℕ) (h : Begins s W u w) where
  pub begins_long : length s ≤ length W
  begins_long = rw (h.joined, length-append) (omega arith)

  pub begins_at : (i : ℕ) → i < length s → get_or s i 0 ≡ get_or W i 0
  begins_at i l = joined_left s h.rest i l ∙ rw h.joined

  begins_part : (n : ℕ) → 6 + n ≤ length s → take (6 + n - 2) (drop 2 s) ≡ take (6 + n - 2) (drop 2 W)
  begins_part n l =
      let d : 2 ≤ length s = omega arith in
      let t : 6 + n - 2 ≤ length (drop 2 s) = simp length-drop (omega arith) in
      rw (h.joined, drop-append-le 2 s h.rest d, take-append-le (6 + n - 2) (drop 2 s) h.rest t)

  -- on one side the hand-out test is whether all is there
  hands : (cap d t : ℕ) → d + t ≤ length s → can_hand cap u (length W) d t ≡ true
  hands cap d t l =
      let p : d + t ≤ length W = omega (arith, begins_long) in
      ⊎_elim
      (λ e. let q : t ≤ u - d = omega arith in simp (le-leb _ _ p, le-ltb _ _ q, and-false))
      (λ e. let q : u - d ≤ 0 = omega arith in simp (le-leb _ _ p, le-ltb _ _ q))
      h.side

  -- and what fits the carry passes it wherever it lies
  hands_fitting : (cap d t : ℕ) → d + t ≤ w → t ≤ cap → can_hand cap u (length W) d t ≡ true
  hands_fitting cap d t l m = let p : d + t ≤ length W = rw h.width l in simp (le-leb _ _ p, le-leb _ _ m, or-true)

  lacks_some : (cap d t : ℕ) → w < d + t → can_hand cap u (length W) d t ≡ false
  lacks_some cap d t l = let p : length W < d + t = rw h.width l in simp (lt-leb _ _ p)

  module _ (cap : ℕ) (kind : Kind) where
    pub settles : skip kind + size kind ≤ length s → settled cap u W (claim kind) ≡ Say (judge kind W)
    unfolding pick
    settles l = rw (hands cap (skip kind) (size kind) l)

    pub settles_fitting : skip kind + size kind ≤ w → size kind ≤ cap → settled cap u W (claim kind) ≡ Say (judge kind W)
    unfolding pick
    settles_fitting l m = rw (hands_fitting cap (skip kind) (size kind) l m)

    pub settles_not : w < skip kind + size kind → settled cap u W (claim kind) ≡ Say (lacks (ltb cap w) (back kind) (size kind))
    unfolding pick
    settles_not l = rw (lacks_some cap (skip kind) (size kind) l, h.width)

  -- ---- the rule that the front byte calls for

  module _ (mode : Mode) (max cap : ℕ) (some : 0 < length s) (sync : is_sync mode (get_or s 0 0) ≡ true) where
    ruled : step_move mode max cap u W ≡ settled cap u W (at_sync mode max (get_or s 0 0) W)
    ruled = look_sync mode max cap u W (get_or s 0 0) (begins_at 0 some) (omega (arith, begins_long)) sync

    pub ruled_ubx : get_or s 0 0 ≡ 0xB5 → step_move mode max cap u W ≡ settled cap u W (look_ubx max W)
    unfolding pick
    ruled_ubx e = ruled ∙ rw (eq-eqb _ _ e)

    pub ruled_rtcm : (get_or s 0 0 ≡ 0xB5 → ⊥) → get_or s 0 0 ≡ 0xD3 → step_move mode max cap u W ≡ settled cap u W (look_rtcm (has_parity mode) W)
    unfolding pick
    ruled_rtcm ne e = ruled ∙ rw (ne_eqb _ _ ne, eq-eqb _ _ e)

  -- ---- rule 2

  module _ (max cap : ℕ) (long : 6 ≤ length s) where
    pub side_other : (get_or s 1 0 ≡ 0x62 → ⊥) → settled cap u W (look_ubx max W) ≡ Pass NotPair
    side_other ne =
        let l : 2 ≤ length W = omega (arith, begins_long) in
        rw (ubx_other max W l (λ e. ne (begins_at 1 (omega arith) ∙ e)))

    module _ (pair : get_or s 1 0 ≡ 0x62) (n : ℕ) (en : n ≡ pair_of (get_or s 4 0) (get_or s 5 0)) where
      long_window : 6 ≤ length W
      long_window = omega (arith, begins_long)

      pair_window : get_or W 1 0 ≡ 0x62
      pair_window = sym (begins_at 1 (omega arith)) ∙ pair

      length_window : n ≡ pair_of (get_or W 4 0) (get_or W 5 0)
      length_window = en ∙ rw (begins_at 4 (omega arith), begins_at 5 (omega arith))

      pub side_over : max < n → settled cap u W (look_ubx max W) ≡ Pass OverMax
      side_over l = rw (ubx_over max W long_window pair_window (rw length_window at l))

      pub claims : n ≤ max → look_ubx max W ≡ claim (Ubx (get_or s 2 0) (get_or s 3 0) n)
      claims l =
          ubx_claims max W long_window pair_window (rw length_window at l)
          ∙ rw (← length_window, begins_at 2 (omega arith), begins_at 3 (omega arith))

  -- a frame that a head claims
  module _ (cap class id n : ℕ) where
    pub frame_lacks : w < n + 8 → settled cap u W (claim (Ubx class id n)) ≡ Say (lacks (ltb cap w) 2 (n + 2))
    frame_lacks m = settles_not cap (Ubx class id n) (omega arith)

    pub sum_here : n + 8 ≤ length s → judge (Ubx class id n) W ≡ judge_sum (get_or s (6 + n) 0) (get_or s (6 + n + 1) 0) (sum_of (take (6 + n - 2) (drop 2 s))) class id n
    sum_here m =
        judged class id n (get_or s (6 + n) 0) (get_or s (6 + n + 1) 0) (sum_of (take (6 + n - 2) (drop 2 s))) W
        (begins_at (6 + n) (omega arith)) (begins_at (6 + n + 1) (omega arith)) (ap sum_of (begins_part n (omega arith)))

    pub frame_judged : n + 8 ≤ length s → settled cap u W (claim (Ubx class id n))
        ≡ Say (judge_sum (get_or s (6 + n) 0) (get_or s (6 + n + 1) 0) (sum_of (take (6 + n - 2) (drop 2 s))) class id n)
    frame_judged m = settles cap (Ubx class id n) (omega arith) ∙ ap Say (sum_here m)

    -- it is on both sides, and fits the carry
    pub frame_both : (b : List ℕ) → Beside s b W u → n + 8 ≤ w → length s < n + 8 → n + 2 ≤ cap
        → settled cap u W (claim (Ubx class id n)) ≡ Say (judge (Ubx class id n) (s ++ b))
    frame_both b beside m short room =
        let all : s ++ b ≡ W = ⊎_elim (λ e. let z = ap length e in absurd (omega (arith, h.width))) (λ e. sym e.0) beside in
        rw all (settles_fitting cap (Ubx class id n) (omega arith) (omega arith))

  -- ---- rule 3

  module _ (parity : Bool) (cap : ℕ) (long : 3 ≤ length s) (n : ℕ) (en : n ≡ (256 * get_or s 1 0 + get_or s 2 0) % 1024) where
    pub claims_rtcm : look_rtcm parity W ≡ claim (Rtcm n parity)
    claims_rtcm = rtcm_claims parity W (get_or s 1 0) (get_or s 2 0) (begins_at 1 (omega arith)) (begins_at 2 (omega arith)) (omega (arith, begins_long)) ∙ rw (← en)

    pub side_lacks_rtcm : w < n + around parity → settled cap u W (look_rtcm parity W) ≡ Say (lacks (ltb cap w) 1 (n + around parity))
    side_lacks_rtcm l = rw claims_rtcm (settles_not cap (Rtcm n parity) (omega arith))

  -- a frame that is not read with parity
  module _ (cap : ℕ) (long : 3 ≤ length s) (n : ℕ) (en : n ≡ (256 * get_or s 1 0 + get_or s 2 0) % 1024) where
    pub side_hands_rtcm : n + 3 ≤ length s → settled cap u W (look_rtcm false W) ≡ Say (Hand (Rtcm n false))
    side_hands_rtcm l = rw (claims_rtcm false cap long n en) (settles cap (Rtcm n false) (omega arith)) ∙ ap Say (judge_bare n W)

    pub side_fits_rtcm : n + 3 ≤ w → n + 3 ≤ cap → settled cap u W (look_rtcm false W) ≡ Say (Hand (Rtcm n false))
    side_fits_rtcm l m = rw (claims_rtcm false cap long n en) (settles_fitting cap (Rtcm n false) (omega arith) (omega arith)) ∙ ap Say (judge_bare n W)

-- ---- what a head claims

-- what is claimed by a rule is claimed by the move, where that is the rule's
module _ (f g : ℕ → ℕ → List ℕ → Sight) (s : List ℕ) (e : (cap u w : ℕ) (W : List ℕ) → Begins s W u w → g cap u W ≡ f cap u W) where
  claimed_by : (kind : Kind) → Claimed f s kind → Claimed g s kind
  claimed_by kind h = λ cap u w W b. e cap u w W b ∙ h cap u w W b

  pub heads_by : (r : Option Head) → Heads f s r → Heads g s r
  heads_by None h = tt
  heads_by (Some (Past y)) h = λ cap u w W b. e cap u w W b ∙ h cap u w W b
  heads_by (Some (HeadUbx head)) h = (h.0, h.1, claimed_by (Ubx head.class head.id head.n) h.2)
  heads_by (Some (HeadRtcm n)) h = (h.0, h.1, claimed_by (Rtcm n false) h.2)

-- ---- the side on which the byte at k lies

begins_from : (a b : List ℕ) (k : ℕ) → k ≤ length a + length b → Begins (side_from a b k) (drop k (a ++ b)) (length a - k) (length a + length b - k)
begins_from a b k h =
    by_pick (λ s. Begins s (drop k (a ++ b)) (length a - k) (length a + length b - k))
    (λ t. begins_left a b k (omega (arith, ltb-true k (length a) t)))
    (λ t. begins_right a b k (ltb-false k (length a) t))

beside_from : (a b : List ℕ) (k : ℕ) → Beside (side_from a b k) b (drop k (a ++ b)) (length a - k)
beside_from a b k =
    by_pick (λ s. Beside s b (drop k (a ++ b)) (length a - k))
    (λ t. beside_left a b k (omega (arith, ltb-true k (length a) t)))
    (λ t. inl (over_first a b k (ltb-false k (length a) t)))

-- the side's bytes are the window's from k on, and the side ends where the window does, or before
pub side_byte : (a b s : List ℕ) (k i : ℕ) → s ≡ side_from a b k → k ≤ length a + length b → i < length s → get_or s i 0 ≡ get_or (a ++ b) (k + i) 0
side_byte a b s k i e h l =
    begins_at s (drop k (a ++ b)) (length a - k) (length a + length b - k) (rw e (begins_from a b k h)) i l
    ∙ rw get_or-drop (ap (λ (n : ℕ). get_or (a ++ b) n 0) (omega arith))

pub side_within : (a b s : List ℕ) (k : ℕ) → s ≡ side_from a b k → k ≤ length a + length b → k + length s ≤ length (a ++ b)
side_within a b s k e h =
    let l = begins_long s (drop k (a ++ b)) (length a - k) (length a + length b - k) (rw e (begins_from a b k h)) in
    let m : length s ≤ length (a ++ b) - k = rw length-drop at l in
    let n : k ≤ length (a ++ b) = rw length-append h in
    omega (arith, m, n)

-- the side and the whole second list have at least as many bytes as the window from k on
pub side_long : (a b s : List ℕ) (k : ℕ) → s ≡ side_from a b k → length a + length b - k ≤ length s + length b
side_long a b s k e =
    rw e
    (by_pick (λ z. length a + length b - k ≤ length z + length b)
    (λ t. simp length-drop (omega (arith, ltb-true k (length a) t)))
    (λ t. simp length-drop (omega (arith, ltb-false k (length a) t))))

-- what is told of the side is told of the window from k on
pub told_from : (mode : Mode) (max cap : ℕ) (a b s : List ℕ) (k : ℕ) → s ≡ side_from a b k → k ≤ length a + length b → (r : Option Sight)
    → ((u : ℕ) (W : List ℕ) → Begins s W u (length a + length b - k) → Beside s b W u → Tells r (step_move mode max cap u W))
    → Tells r (move_at mode max cap (length a) (a ++ b) k)
told_from mode max cap a b s k e h r f = f (length a - k) (drop k (a ++ b)) (rw e (begins_from a b k h)) (rw e (beside_from a b k))
