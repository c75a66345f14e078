-- The looks of modes one and two: more bytes do not change them, and demand 3's carry has room for what they claim.
use mathlib.Core.Path.{◌≡◌, sym}
use mathlib.Core.Bool.{Bool, true, false, true≢false}
use mathlib.Core.List.{List, [], ◌∷◌, ◌++◌}
use Prim.Native.Nat.{ℕ, ◌+◌, ◌*◌, ◌≤◌, ◌<◌}
use native.Mathlib.Omega.{arith}
use lib.ListN.{length, get_or, length-append, get_or-append}
use lib.Dec.{ltb, eqb}
use borrow.Author.Tests.{ltb-true, ltb-false, le-ltb}
use Rattle.window.specs.declared.Mode.{Mode, TheVariants.{One, Two, Three}}
use Rattle.window.specs.Sync.{has_parity, is_sync}
use Rattle.window.proofs.Pick.{by_pick, pick_true, pick_false}
use Rattle.window.specs.Pick.{pick}
use Rattle.claim.specs.Sizes.{around}
use Rattle.look.specs.declared.Why.TheVariants.{NoSync}
use Rattle.look.specs.declared.Sight.TheVariants.{Pass}
use Rattle.look.specs.Rules.{Look, look_ubx, look_rtcm, look}
use Rattle.look.proofs.Within.{look_in}
use Rattle.stream.specs.Demand.{Roomy}
use Rattle.stream.specs.Scan.{scan_move, HasScan}
use Rattle.stream.proofs.Walks.{Steady}
use Rattle.stream.proofs.Steady.{is_need, SteadyLook, Fit, steady}

-- ---- more bytes

-- they change neither a byte of the window nor that there are k of them
module _ (W Z : List ℕ) (k : ℕ) (h : k ≤ length W) where
  byte_grow : (i : ℕ) → i < k → get_or (W ++ Z) i 0 ≡ get_or W i 0
  byte_grow i l = get_or-append W Z 0 i (omega arith)

  enough_grow : ltb (length (W ++ Z)) k ≡ false
  enough_grow = le-ltb (length (W ++ Z)) k (rw length-append (omega arith))

ubx_grow : (max : ℕ) (W Z : List ℕ) → is_need (look_ubx max W) ≡ false → look_ubx max (W ++ Z) ≡ look_ubx max W
unfolding look_ubx
ubx_grow max W Z =
    let P : Look → Type 0 = λ l. is_need l ≡ false → look_ubx max (W ++ Z) ≡ l in
    by_pick P (λ _ e. absurd (true≢false e))
    (λ t2.
    let h2 : 2 ≤ length W = ltb-false (length W) 2 t2 in
    let e2 : ltb (length (W ++ Z)) 2 ≡ false = enough_grow W Z 2 h2 in
    let g1 : get_or (W ++ Z) 1 0 ≡ get_or W 1 0 = byte_grow W Z 2 h2 1 (omega arith) in
    by_pick P (λ t _. simp (e2, g1, t, pick_false, pick_true))
    (λ t. by_pick P (λ _ e. absurd (true≢false e))
    (λ t6 _.
    let h6 : 6 ≤ length W = ltb-false (length W) 6 t6 in
    let e6 : ltb (length (W ++ Z)) 6 ≡ false = enough_grow W Z 6 h6 in
    let b : (i : ℕ) → i < 6 → get_or (W ++ Z) i 0 ≡ get_or W i 0 = byte_grow W Z 6 h6 in
    simp (e2, e6, g1, t, b 2 (omega arith), b 3 (omega arith), b 4 (omega arith), b 5 (omega arith), pick_false))))

rtcm_grow : (parity : Bool) (W Z : List ℕ) → is_need (look_rtcm parity W) ≡ false → look_rtcm parity (W ++ Z) ≡ look_rtcm parity W
unfolding look_rtcm
rtcm_grow parity W Z =
    by_pick (λ l. is_need l ≡ false → look_rtcm parity (W ++ Z) ≡ l) (λ _ e. absurd (true≢false e))
    (λ t _.
    let h : 3 ≤ length W = ltb-false (length W) 3 t in
    simp (enough_grow W Z 3 h, byte_grow W Z 3 h 1 (omega arith), byte_grow W Z 3 h 2 (omega arith), pick_false))

-- a sync byte of theirs that is not B5 is D3
pub no_other : (mode : Mode) (b : ℕ) → HasScan mode → is_sync mode b ≡ true → eqb b 0xB5 ≡ false → eqb b 0xD3 ≡ false → ⊥
no_other (One parity) b h t e d = true≢false (sym (rw e at t))
no_other (Two parity) b h t e d = true≢false (sym (rw (e, d) at t))
no_other (Three parity) b h t e d = h

pub steady_look : (mode : Mode) (max : ℕ) → HasScan mode → SteadyLook (look mode max)
unfolding look
steady_look mode max has = record { grow = grows; inside = look_in mode max }
  where
    grows : (W Z : List ℕ) → is_need (look mode max W) ≡ false → look mode max (W ++ Z) ≡ look mode max W
    grows [] Z = λ e. absurd (true≢false e)
    grows (b ∷ bs) Z =
        let P : Look → Type 0 = λ l. is_need l ≡ false → look mode max (b ∷ (bs ++ Z)) ≡ l in
        by_pick P
        (λ t. by_pick P (λ t5 e. rw (t, t5) (simp pick_true (ubx_grow max (b ∷ bs) Z e)))
        (λ t5. by_pick P (λ t3 e. rw (t, t5, t3) (simp (pick_true, pick_false) (rtcm_grow (has_parity mode) (b ∷ bs) Z e)))
        (λ t3. absurd (no_other mode b has t t5 t3))))
        (λ t _. simp (t, pick_false))

pub steady_scan : (mode : Mode) (max : ℕ) → HasScan mode → Steady (scan_move mode max)
unfolding scan_move
steady_scan mode max has = steady (look mode max) (steady_look mode max has)

-- a byte that is no sync byte is passed
pub scan_noise : (mode : Mode) (max b : ℕ) (bs : List ℕ) → is_sync mode b ≡ false → scan_move mode max (b ∷ bs) ≡ Pass NoSync
unfolding scan_move look pick
scan_noise mode max b bs e = rw e

-- ---- demand 3's carry

ubx_fit : (max cap : ℕ) → max + 7 ≤ cap → (W : List ℕ) → Fit cap (length W) (look_ubx max W)
unfolding look_ubx
ubx_fit max cap h W =
    by_pick (Fit cap (length W)) (λ t. omega (arith, ltb-true (length W) 2 t))
    (λ _. by_pick (Fit cap (length W)) (λ _. tt)
    (λ _. by_pick (Fit cap (length W)) (λ t. omega (arith, ltb-true (length W) 6 t))
    (λ _. by_pick (Fit cap (length W)) (λ _. tt) (λ t. omega (arith, ltb-false max (get_or W 4 0 + 256 * get_or W 5 0) t)))))

rtcm_fit : (parity : Bool) (cap : ℕ) → 1023 + around parity ≤ cap → (W : List ℕ) → Fit cap (length W) (look_rtcm parity W)
unfolding look_rtcm
rtcm_fit parity cap h W = by_pick (Fit cap (length W)) (λ t. omega (arith, ltb-true (length W) 3 t)) (λ _. omega arith)

module _ (max cap : ℕ) where
  pub has_scan : (mode : Mode) → Roomy mode max cap → HasScan mode
  has_scan (One parity) h = tt
  has_scan (Two parity) h = tt
  has_scan (Three parity) h = absurd h

  ubx_room : (mode : Mode) → Roomy mode max cap → max + 7 ≤ cap
  ubx_room (One parity) h = omega arith
  ubx_room (Two parity) h = omega arith
  ubx_room (Three parity) h = absurd h

  rtcm_room : (mode : Mode) (b : ℕ) → Roomy mode max cap → is_sync mode b ≡ true → eqb b 0xB5 ≡ false → 1023 + around (has_parity mode) ≤ cap
  rtcm_room (One parity) b h t e = absurd (true≢false (sym (rw e at t)))
  rtcm_room (Two parity) b h t e = omega arith
  rtcm_room (Three parity) b h t e = absurd h

  pub look_fit : (mode : Mode) → Roomy mode max cap → (W : List ℕ) → Fit cap (length W) (look mode max W)
  unfolding look
  look_fit mode h [] = omega arith
  look_fit mode h (b ∷ bs) =
      let P : Look → Type 0 = Fit cap (length (b ∷ bs)) in
      by_pick P
      (λ t. by_pick P (λ _. ubx_fit max cap (ubx_room mode h) (b ∷ bs))
      (λ t5. by_pick P (λ _. rtcm_fit (has_parity mode) cap (rtcm_room mode b h t t5) (b ∷ bs))
      (λ t3. absurd (no_other mode b (has_scan mode h) t t5 t3))))
      (λ _. tt)
