-- A refused call hands the state back, and a state that was read and is written back leaves its words as they were.
use Rattle.std.specs.Prelude.{Option, Some, None}
use mathlib.Core.Path.{◌≡◌, refl, sym, ap, ◌∙◌}
use mathlib.Core.Bool.{Bool, true, false}
use mathlib.Core.List.{List, [], ◌∷◌}
use Prim.Native.Nat.{ℕ, zero, suc, ◌≤◌}
use native.Mathlib.Omega.{arith}
use lib.ListN.{get_or, set}
use lib.Dec.{ltb, eqb}
use borrow.Author.Tests.{ltb-false, eqb-true, eqb-false}
use Rattle.window.specs.declared.Mode.{Mode, TheVariants.{One, Two, Three}}
use Rattle.window.proofs.Pick.{by_pick}
use Rattle.state.specs.declared.State.{State}
use Rattle.state.proofs.Granted.{none_of}
use Rattle.words.specs.Words.{mode_no, open_no, with_state, read_mode, max_or_open_too_big, state_by, state_in, read_state}

-- storing what stands there
pub set_same : (l : List ℕ) (i : ℕ) → set l i (get_or l i 0) ≡ l
set_same [] zero = refl
set_same [] (suc i) = refl
set_same (x ∷ l) zero = refl
set_same (x ∷ l) (suc i) = ap (λ (r : List ℕ). x ∷ r) (set_same l i)

-- each of the six numbers is its mode's, and no other is one
mode_back : (n : ℕ) (m : Mode) → read_mode n ≡ Some m → mode_no m ≡ n
mode_back n m =
    let P : Option Mode → Type 0 = λ r. r ≡ Some m → mode_no m ≡ n in
    by_pick P (λ t e. known (One false) e ∙ sym (eqb-true n 1 t))
    (λ _. by_pick P (λ t e. known (Two false) e ∙ sym (eqb-true n 2 t))
    (λ _. by_pick P (λ t e. known (Three false) e ∙ sym (eqb-true n 3 t))
    (λ _. by_pick P (λ t e. known (One true) e ∙ sym (eqb-true n 17 t))
    (λ _. by_pick P (λ t e. known (Two true) e ∙ sym (eqb-true n 18 t))
    (λ _. by_pick P (λ t e. known (Three true) e ∙ sym (eqb-true n 19 t))
    (λ _ e. let z : ◌≡◌ {A = ℕ} 0 1 = cc in absurd (omega arith)))))))
  where
    known : (k : Mode) → Some k ≡ Some m → mode_no m ≡ mode_no k
    known k e = let h : k ≡ m = cc in ap mode_no (sym h)

open_back : (n : ℕ) → n ≤ 1 → open_no (eqb n 1) ≡ n
open_back n h = go (eqb n 1) refl
  where
    go : (b : Bool) → eqb n 1 ≡ b → open_no b ≡ n
    go true e = let k = eqb-true n 1 e in omega arith
    go false e = let k = eqb-false n 1 e in omega arith

-- words that a state was read from are one's, and it is what they say
pub record Said (w : List ℕ) (s : State) : Type 0 where
  pub small : max_or_open_too_big w ≡ false
  pub mode : read_mode (get_or w 0 0) ≡ Some s.mode
  pub state : state_by s.mode w ≡ s

pub read_is : (w : List ℕ) (s : State) → read_state w ≡ Some s → Said w s
unfolding read_state
read_is w s = by_pick (λ r. r ≡ Some s → Said w s) (λ _ e. let z : ◌≡◌ {A = ℕ} 0 1 = cc in absurd (omega arith)) (λ n. go (read_mode (get_or w 0 0)) refl n)
  where
    go : (r : Option Mode) → read_mode (get_or w 0 0) ≡ r → max_or_open_too_big w ≡ false → state_in w r ≡ Some s → Said w s
    go None k n e = let z : ◌≡◌ {A = ℕ} 0 1 = cc in absurd (omega arith)
    go (Some m) k n e =
        let b : state_by m w ≡ s = cc in
        let h : m ≡ s.mode = ap (λ (x : State). x.mode) b in
        record { small = n; mode = k ∙ ap Some h; state = ap (λ (x : Mode). state_by x w) (sym h) ∙ b }

module _ (w : List ℕ) (s : State) (h : Said w s) where
  pub mode_word : mode_no s.mode ≡ get_or w 0 0
  mode_word = mode_back (get_or w 0 0) s.mode h.mode

  pub open_word : open_no (eqb (get_or w 6 0) 1) ≡ get_or w 6 0
  open_word = open_back (get_or w 6 0) (ltb-false 1 (get_or w 6 0) (none_of (ltb 65535 (get_or w 1 0) ∷ ltb 1 (get_or w 6 0) ∷ []) h.small).1.0)

  pub same_words : with_state (state_by s.mode w) w ≡ w
  same_words =
      let k : (i : ℕ) → set w i (get_or w i 0) ≡ w = set_same w in
      rw (mode_word, open_word) (simp (k 0, k 1, k 2, k 3, k 4, k 5, k 6, k 7, k 8))
