-- A look that more bytes do not change makes moves that more bytes do not change; and where the carry has room for what it
-- claims, a step's moves are the scan's.
use mathlib.Core.Path.{◌≡◌, refl, sym, ap, ◌∙◌}
use mathlib.Core.Bool.{Bool, true, false, ◌||◌, true≢false}
use mathlib.Core.List.{List, ◌++◌}
use Prim.Native.Nat.{ℕ, suc, ◌≤◌, ◌<◌}
use native.Mathlib.Omega.{arith}
use lib.ListN.{length, length-append}
use lib.Dec.{leb}
use borrow.Author.Tests.{leb-true, leb-false, le-ltb, le-leb}
use Rattle.window.specs.Pick.{pick}
use Rattle.window.proofs.Pick.{by_pick, pick_true}
use Rattle.claim.specs.declared.Verdict.TheVariants.{Wait, Tell, Hand}
use Rattle.claim.specs.Sizes.{size}
use Rattle.look.specs.declared.Sight.{Sight, TheVariants.{Pass, Say}}
use Rattle.look.specs.Rules.{Look, need, pass, claim}
use Rattle.look.specs.Moves.{settled}
use Rattle.look.specs.Within.{whole, Moves}
use Rattle.look.proofs.Within.{In, settled_in}
use Rattle.stream.specs.Scan.{scan_sight}
use Rattle.stream.proofs.Walks.{ends, gone, Steady}
use Rattle.look.proofs.Grow.{judge_grow}
use Rattle.stream.proofs.Cases.{judge_ends}

abbrev pub is_need : Look → Bool
is_need (need k) = true
is_need (pass y) = false
is_need (claim kind) = false

-- more bytes change nothing but a look that needs them
pub record SteadyLook (lk : List ℕ → Look) : Type 0 where
  pub grow : (W Z : List ℕ) → is_need (lk W) ≡ false → lk (W ++ Z) ≡ lk W
  pub inside : (W : List ℕ) → In (length W) (lk W)

-- what a look at w bytes may come to where the carry holds cap bytes: a window that waits fits, and so do the body of the frame
-- claimed and that frame less a byte
abbrev pub Fit : ℕ → ℕ → Look → Type 0
Fit cap w (need k) = (k ≡ 0) × (w ≤ cap)
Fit cap w (pass y) = Unit {0}
Fit cap w (claim kind) = (whole kind ≤ suc cap) × (size kind ≤ cap)

-- ---- a step's moves are the scan's where the carry has room: the hand-out test asks only that the frame is whole, and nothing is over

abbrev Room : ℕ → ℕ → Look → Type 0
Room cap w (need k) = Unit {0}
Room cap w (pass y) = Unit {0}
Room cap w (claim kind) = (whole kind ≤ w → size kind ≤ cap) × (w < whole kind → w ≤ cap)

or_true : (b : Bool) → (b || true) ≡ true
or_true true = refl
or_true false = refl

same_sight : (cap u : ℕ) (W : List ℕ) (l : Look) → Room cap (length W) l → settled cap u W l ≡ scan_sight W l
same_sight cap u W (need k) f = refl
same_sight cap u W (pass y) f = refl
same_sight cap u W (claim kind) f = go (leb (whole kind) (length W)) refl
  where
    go : (b : Bool) → leb (whole kind) (length W) ≡ b → settled cap u W (claim kind) ≡ scan_sight W (claim kind)
    go true t = rw (t, le-leb (size kind) cap (f.0 (leb-true _ _ t)), or_true) (simp pick_true)
    go false t = rw (t, le-ltb cap (length W) (f.1 (leb-false _ _ t)))

room_of : (cap w : ℕ) (l : Look) → Fit cap w l → Room cap w l
room_of cap w (need k) f = tt
room_of cap w (pass y) f = tt
room_of cap w (claim kind) f = (λ _. f.1, λ h. omega (arith, f.0))

pub fit_sight : (cap u : ℕ) (W : List ℕ) (l : Look) → Fit cap (length W) l → settled cap u W l ≡ scan_sight W l
fit_sight cap u W l f = same_sight cap u W l (room_of cap (length W) l f)

-- a carry as long as the window has room for everything, so the scan's moves stay within the window as a step's do
room_enough : (w : ℕ) (l : Look) → Room w w l
room_enough w (need k) = tt
room_enough w (pass y) = tt
room_enough w (claim kind) = (λ h. omega arith, λ h. omega arith)

pub sight_in : (W : List ℕ) (l : Look) → In (length W) l → Moves (length W) 0 (length W) (scan_sight W l)
sight_in W l h = rw (same_sight (length W) 0 W l (room_enough (length W) l)) at (settled_in (length W) 0 W l h)

goes_in : (cap u w : ℕ) (m : Sight) → Moves cap u w m → ends m ≡ false → (0 < gone m) × (gone m ≤ w)
goes_in cap u w (Pass y) h e = h
goes_in cap u w (Say (Wait k)) h e = absurd (true≢false e)
goes_in cap u w (Say (Tell t)) h e = h
goes_in cap u w (Say (Hand kind)) h e = (h.0, h.1)

-- ---- more bytes

sight_grow : (W Z : List ℕ) (l : Look) → ends (scan_sight W l) ≡ false → scan_sight (W ++ Z) l ≡ scan_sight W l
unfolding pick
sight_grow W Z (need k) e = refl
sight_grow W Z (pass y) e = refl
sight_grow W Z (claim kind) e = go (leb (whole kind) (length W)) refl
  where
    go : (b : Bool) → leb (whole kind) (length W) ≡ b → scan_sight (W ++ Z) (claim kind) ≡ scan_sight W (claim kind)
    go true t =
        let h : whole kind ≤ length W = leb-true _ _ t in
        let k : whole kind ≤ length (W ++ Z) = rw length-append (omega arith) in
        rw (t, le-leb _ _ k, judge_grow kind W Z h)
    go false t = absurd (true≢false (rw t at e))

sight_on : (W : List ℕ) (l : Look) → ends (scan_sight W l) ≡ false → is_need l ≡ false
sight_on W (need k) e = e
sight_on W (pass y) e = refl
sight_on W (claim kind) e = refl

pub steady : (lk : List ℕ → Look) → SteadyLook lk → Steady (λ W. scan_sight W (lk W))
steady lk st = record {
  grow = λ W Z e. rw (st.grow W Z (sight_on W (lk W) e)) (sight_grow W Z (lk W) e);
  goes = λ W e. goes_in (length W) 0 (length W) (scan_sight W (lk W)) (sight_in W (lk W) (st.inside W)) e;
}

-- ---- where a move ends a scan it drains nothing, and the window fits the carry

pub sight_still : (cap : ℕ) (W : List ℕ) (l : Look) → Fit cap (length W) l → ends (scan_sight W l) ≡ true → (scan_sight W l ≡ Say (Wait 0)) × (length W ≤ cap)
sight_still cap W (need k) f = λ e. (ap (λ (n : ℕ). Say (Wait n)) f.0, f.1)
sight_still cap W (pass y) f = λ e. absurd (true≢false (sym e))
sight_still cap W (claim kind) f =
    by_pick (λ v. ends (Say v) ≡ true → (Say v ≡ Say (Wait 0)) × (length W ≤ cap))
    (λ _ e. absurd (true≢false (sym e ∙ judge_ends kind W)))
    (λ t _. (refl, omega (arith, leb-false (whole kind) (length W) t, f.0)))
