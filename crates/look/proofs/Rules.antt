-- 01's rules, outcome by outcome: what each look comes to, and what becomes of it.
use mathlib.Core.Path.{◌≡◌, refl, sym, ap, ◌∙◌}
use mathlib.Core.Bool.{Bool, true, false, ◌&&◌}
use mathlib.Core.List.{List, [], ◌∷◌, ◌++◌}
use Prim.Native.Nat.{ℕ, ◌+◌, ◌-◌, ◌*◌, ◌%◌, ◌≤◌, ◌<◌}
use native.Mathlib.Omega.{arith}
use lib.ListN.{length, get_or, take, drop, length-append}
use lib.Seq.{drop-cons}
use lib.Dec.{ltb}
use borrow.Author.Tests.{leb-true, lt-ltb, le-ltb, eq-eqb, ne_eqb}
use Rattle.std.specs.Prelude.{Option, None}
use Rattle.sum.specs.declared.Sums.{Sums}
use Rattle.sum.specs.Sum.{sum_of, pair_of}
use Rattle.window.specs.declared.Mode.{Mode}
use Rattle.window.specs.Pick.{pick}
use Rattle.window.proofs.Pick.{pick_true}
use Rattle.window.specs.Sync.{is_sync, first_sync}
use Rattle.window.specs.EndMark.{end_mark}
use Rattle.claim.specs.declared.Kind.{Kind, TheVariants.{Ubx, Rtcm, Sentence}}
use Rattle.claim.specs.declared.Verdict.TheVariants.{Wait, Hand}
use Rattle.claim.specs.Sizes.{skip, size, back}
use Rattle.claim.specs.Verdicts.{can_hand, judge_sum, lacks}
use Rattle.look.specs.declared.Why.TheVariants.{NoSync, NotPair, OverMax}
use Rattle.look.specs.declared.Sight.TheVariants.{Pass, Say}
use Rattle.look.specs.Rules.{need, pass, claim, look_ubx, look_rtcm, end_at, look_nmea, at_sync, look}
use Rattle.look.specs.Moves.{judge, settled, step_move}

-- ---- what becomes of a claim, for every kind: the window is two lists joined, of which the carry has the first

pub hand_whole : (cap u w d t : ℕ) → can_hand cap u w d t ≡ true → d + t ≤ w
hand_whole cap u w d t e = leb-true (d + t) w (left _ _ e)
  where
    left : (s t : Bool) → (s && t) ≡ true → s ≡ true
    left true t e = refl
    left false t e = e

module _ (cap : ℕ) (a b : List ℕ) (kind : Kind) where
  pub claim_fits : can_hand cap (length a) (length a + length b) (skip kind) (size kind) ≡ true
      → settled cap (length a) (a ++ b) (claim kind) ≡ Say (judge kind (a ++ b))
  unfolding pick
  claim_fits e = rw (length-append, e)

  pub claim_lacks : can_hand cap (length a) (length a + length b) (skip kind) (size kind) ≡ false
      → settled cap (length a) (a ++ b) (claim kind) ≡ Say (lacks (ltb cap (length a + length b)) (back kind) (size kind))
  unfolding pick
  claim_lacks e = rw (length-append, e)

-- ---- the sum of a frame

module _ (class id n a b : ℕ) (got : Sums) (W : List ℕ) (ea : a ≡ get_or W (6 + n) 0) (eb : b ≡ get_or W (6 + n + 1) 0)
    (es : got ≡ sum_of (take (6 + n - 2) (drop 2 W))) where
  pub judged : judge (Ubx class id n) W ≡ judge_sum a b got class id n
  unfolding judge
  judged =
      let p : 6 + n ≡ n + 6 = omega arith in
      let q : 6 + n + 1 ≡ n + 7 = omega arith in
      let l : 6 + n - 2 ≡ n + 4 = omega arith in
      rw (ea, eb, es, l, q, p)

-- ---- the parity of a frame

pub judge_bare : (n : ℕ) (W : List ℕ) → judge (Rtcm n false) W ≡ Hand (Rtcm n false)
unfolding judge
judge_bare n W = refl

pub judge_sentence : (i : ℕ) (W : List ℕ) → judge (Sentence i) W ≡ Hand (Sentence i)
unfolding judge
judge_sentence i W = refl

-- ---- rule 2, test by test

module _ (max : ℕ) (W : List ℕ) where
  pub ubx_short : length W < 2 → look_ubx max W ≡ need 0
  unfolding look_ubx pick
  ubx_short h = rw (lt-ltb _ _ h)

  pub ubx_other : 2 ≤ length W → (get_or W 1 0 ≡ 0x62 → ⊥) → look_ubx max W ≡ pass NotPair
  unfolding look_ubx pick
  ubx_other h e = rw (le-ltb _ _ h, ne_eqb _ _ e)

  pub ubx_headless : 2 ≤ length W → get_or W 1 0 ≡ 0x62 → length W < 6 → look_ubx max W ≡ need 0
  unfolding look_ubx pick
  ubx_headless h e l = rw (le-ltb _ _ h, eq-eqb _ _ e, lt-ltb _ _ l)

  module _ (long : 6 ≤ length W) (pair : get_or W 1 0 ≡ 0x62) where
    pub ubx_over : max < pair_of (get_or W 4 0) (get_or W 5 0) → look_ubx max W ≡ pass OverMax
    unfolding look_ubx pick
    ubx_over l = let h : 2 ≤ length W = omega arith in rw (le-ltb _ _ h, eq-eqb _ _ pair, le-ltb _ _ long, lt-ltb _ _ l)

    pub ubx_claims : pair_of (get_or W 4 0) (get_or W 5 0) ≤ max → look_ubx max W ≡ claim (Ubx (get_or W 2 0) (get_or W 3 0) (pair_of (get_or W 4 0) (get_or W 5 0)))
    unfolding look_ubx pick
    ubx_claims l = let h : 2 ≤ length W = omega arith in rw (le-ltb _ _ h, eq-eqb _ _ pair, le-ltb _ _ long, le-ltb _ _ l)

-- ---- rule 3

module _ (parity : Bool) (W : List ℕ) where
  pub rtcm_short : length W < 3 → look_rtcm parity W ≡ need 0
  unfolding look_rtcm pick
  rtcm_short h = rw (lt-ltb _ _ h)

  pub rtcm_claims : (high low : ℕ) → high ≡ get_or W 1 0 → low ≡ get_or W 2 0 → 3 ≤ length W → look_rtcm parity W ≡ claim (Rtcm ((256 * high + low) % 1024) parity)
  unfolding look_rtcm pick
  rtcm_claims high low eh el h = rw (le-ltb _ _ h, eh, el)

-- ---- rule 4

module _ (m : Mode) (W : List ℕ) where
  pub nmea_short : length W < 8 → look_nmea m W ≡ need 0
  unfolding look_nmea pick
  nmea_short h = rw (lt-ltb _ _ h)

  pub nmea_long : (f : Option ℕ) → f ≡ end_mark 0 W → 8 ≤ length W → look_nmea m W ≡ end_at m W f
  unfolding look_nmea pick
  nmea_long f e h = rw (le-ltb _ _ h, ← e)

  module _ (r : ℕ) (e : r ≡ 1 + first_sync m (drop 1 W)) where
    pub end_later : r < length W → end_at m W None ≡ need 1
    unfolding pick
    end_later h = rw (← e, lt-ltb _ _ h)

    pub end_full : length W ≤ r → 82 < length W → end_at m W None ≡ need (length W)
    unfolding pick
    end_full h l = rw (← e, le-ltb _ _ h, lt-ltb _ _ l)

    pub end_keep : length W ≤ r → length W ≤ 82 → end_at m W None ≡ need 0
    unfolding pick
    end_keep h l = rw (← e, le-ltb _ _ h, le-ltb _ _ l)

-- ---- the look, by the front byte

pub empty : (L : List ℕ) → length L ≡ 0 → L ≡ []
empty [] h = refl
empty (x ∷ l) h = absurd (omega arith)

noise_front : (m : Mode) (max cap u x : ℕ) (L : List ℕ) → is_sync m x ≡ false → step_move m max cap u (x ∷ L) ≡ Pass NoSync
unfolding step_move look pick
noise_front m max cap u x L e = rw e

sync_front : (m : Mode) (max cap u x : ℕ) (L : List ℕ) → is_sync m x ≡ true → step_move m max cap u (x ∷ L) ≡ settled cap u (x ∷ L) (at_sync m max x (x ∷ L))
unfolding step_move look
sync_front m max cap u x L e = rw e (ap (λ l. settled cap u (x ∷ L) l) (pick_true (at_sync m max x (x ∷ L)) (pass NoSync)))

module _ (m : Mode) (max cap u : ℕ) (W : List ℕ) where
  pub look_empty : length W ≡ 0 → step_move m max cap u W ≡ Say (Wait 0)
  unfolding step_move look
  look_empty e = rw (empty W e)

  module _ (x : ℕ) (ex : x ≡ get_or W 0 0) (some : 0 < length W) where
    front : W ≡ x ∷ drop 1 W
    front = drop-cons W 0 0 some ∙ rw ex

    pub look_noise : is_sync m x ≡ false → step_move m max cap u W ≡ Pass NoSync
    look_noise e = ap (λ (L : List ℕ). step_move m max cap u L) front ∙ noise_front m max cap u x (drop 1 W) e

    pub look_sync : is_sync m x ≡ true → step_move m max cap u W ≡ settled cap u W (at_sync m max x W)
    look_sync e = ap (λ (L : List ℕ). step_move m max cap u L) front ∙ sync_front m max cap u x (drop 1 W) e ∙ ap (λ (L : List ℕ). settled cap u L (at_sync m max x L)) (sym front)
