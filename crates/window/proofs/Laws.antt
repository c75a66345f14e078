-- Laws of two lists read as one, of the first of some bytes, and of the end mark.
use mathlib.Core.Path.{◌≡◌, refl, sym, ap, fun_ext, ◌∙◌}
use mathlib.Core.Bool.{Bool, true, false, ◌&&◌, ◌||◌, and-false, or-false, or_assoc, true≢false}
use mathlib.Core.List.{List, [], ◌∷◌, ◌++◌}
use Prim.Native.Nat.{ℕ, zero, suc, ◌+◌, ◌-◌, ◌≤◌, ◌<◌, min}
use native.Mathlib.Nat.{add-zero, add-sub_of_le, sub-zero, suc-sub-suc, zero-min, min-zero, suc-min-suc}
use native.Mathlib.Omega.{arith}
use lib.ListN.{length, get_or, take, drop, length-drop, length-append, take-append-drop, drop_of_length-le, get_or-append}
use lib.Seq.{drop-cons, drop-drop, get_or-drop, get_or-append-add, length-take-le, take_all, drop-append-le, drop-append-add}
use lib.Dec.{eqb}
use Rattle.std.proofs.Common.{Some, None}
use Rattle.std.proofs.Math.Seq.{drop-append_seam}
use Rattle.std.specs.List.{list_any}
use Rattle.window.specs.Pick.{pick}
use Rattle.window.proofs.Pick.{by_pick}
use Rattle.window.specs.Sync.{is_sync, first}
use Rattle.window.specs.EndMark.{end_mark}
use Rattle.window.specs.Search.{is, syncs_of, told}
use Rattle.window.specs.declared.Mode.{Mode, TheVariants.{One, Two, Three}}
use Rattle.window.specs.declared.Needle.TheVariants.{UbxRtcm, UbxRtcmNmea}

-- ---- two lists read as one

-- a byte
pub joined_left : (a b : List ℕ) (i : ℕ) → i < length a → get_or a i 0 ≡ get_or (a ++ b) i 0
joined_left a b i h = sym (get_or-append a b 0 i h)

pub joined_right : (a b : List ℕ) (i : ℕ) → length a ≤ i → get_or b (i - length a) 0 ≡ get_or (a ++ b) i 0
joined_right a b i h = sym (get_or-append-add a b (i - length a) 0) ∙ ap (λ (k : ℕ). get_or (a ++ b) k 0) (add-sub_of_le h)

-- a slice's part from k on, as the code lends it
pub from : (l : List ℕ) (k : ℕ) → take (length l - k) (drop k l) ≡ drop k l
from l k = take_all (length l - k) (drop k l) (simp length-drop (omega arith))

-- all from k on
pub drop_left : (a b : List ℕ) (k : ℕ) → k ≤ length a → drop k a ++ b ≡ drop k (a ++ b)
drop_left a b k h = sym (drop-append-le k a b h)

pub drop_right : (a b : List ℕ) (k : ℕ) → length a ≤ k → drop (k - length a) b ≡ drop k (a ++ b)
drop_right a b k h = sym (drop-append-add a b (k - length a)) ∙ ap (λ (i : ℕ). drop i (a ++ b)) (add-sub_of_le h)

-- the first bytes, and all from k on, as the first list's and the second's
pub take_two : (k : ℕ) (a b : List ℕ) → take (min k (length a)) a ++ take (k - min k (length a)) b ≡ take k (a ++ b)
take_two zero a b = rw zero-min
take_two (suc k) [] b = rw (min-zero, sub-zero)
take_two (suc k) (x ∷ a) b = rw (suc-min-suc, suc-sub-suc) (ap (λ (l : List ℕ). x ∷ l) (take_two k a b))

pub drop_two : (k : ℕ) (a b : List ℕ) → drop (min k (length a)) a ++ drop (k - min k (length a)) b ≡ drop k (a ++ b)
drop_two zero a b = rw zero-min
drop_two (suc k) [] b = rw (min-zero, sub-zero)
drop_two (suc k) (x ∷ a) b = rw (suc-min-suc, suc-sub-suc) (drop_two k a b)

-- a part: the first list's, then the second's
rest_two : (from to f t : ℕ) → f ≤ from → f ≤ t → t ≤ to → to - from - (t - f) ≡ to - t - (from - f)
rest_two from to f t p q r = omega arith

pub part_two : (a b : List ℕ) (from to : ℕ) → from ≤ to →
    let f = min from (length a) in let t = min to (length a) in
    take (t - f) (drop f a) ++ take (to - t - (from - f)) (drop (from - f) b) ≡ take (to - from) (drop from (a ++ b))
part_two a b from to h =
    let f : ℕ = min from (length a) in
    let t : ℕ = min to (length a) in
    let m : min (to - from) (length (drop f a)) ≡ t - f = simp length-drop (omega arith) in
    let n = rest_two from to f t (omega arith) (omega arith) (omega arith) in
    rw (← drop_two from a b, ← take_two (to - from) (drop f a) (drop (from - f) b), m, n)

-- ---- the first byte that a test tells

module _ (t : ℕ → Bool) where
  module _ (l : List ℕ) (i : ℕ) where
    pub first_here : i < length l → t (get_or l i 0) ≡ true → first t (drop i l) ≡ 0
    unfolding first pick
    first_here h e = rw (drop-cons l i 0 h, e)

    pub first_next : i < length l → t (get_or l i 0) ≡ false → first t (drop i l) ≡ suc (first t (drop (suc i) l))
    unfolding first pick
    first_next h e = rw (drop-cons l i 0 h, e)

    pub first_end : length l ≤ i → first t (drop i l) ≡ 0
    unfolding first
    first_end h = rw (drop_of_length-le l h)

  pub first_le : (l : List ℕ) → first t l ≤ length l
  unfolding first
  first_le [] = omega arith
  first_le (x ∷ l) = by_pick (λ n. n ≤ suc (length l)) (λ _. omega arith) (λ _. omega (arith, first_le l))

  -- of two lists joined: the first's, or else the second's
  pub first_left : (a b : List ℕ) → first t a < length a → first t (a ++ b) ≡ first t a
  unfolding first pick
  first_left [] b h = absurd (omega arith)
  first_left (x ∷ a) b h = go (t x) (first_left a b) h
    where
      go : (u : Bool) → (first t a < length a → first t (a ++ b) ≡ first t a)
          → pick u 0 (suc (first t a)) < suc (length a) → pick u 0 (suc (first t (a ++ b))) ≡ pick u 0 (suc (first t a))
      go true ih k = refl
      go false ih k = ap suc (ih (omega arith))

  pub first_right : (a b : List ℕ) → length a ≤ first t a → first t (a ++ b) ≡ length a + first t b
  unfolding first pick
  first_right [] b h = omega arith
  first_right (x ∷ a) b h = go (t x) (first_right a b) h
    where
      go : (u : Bool) → (length a ≤ first t a → first t (a ++ b) ≡ length a + first t b)
          → suc (length a) ≤ pick u 0 (suc (first t a)) → pick u 0 (suc (first t (a ++ b))) ≡ suc (length a) + first t b
      go true ih k = absurd (omega arith)
      go false ih k = let e : first t (a ++ b) ≡ length a + first t b = ih (omega arith) in omega arith

  -- where it is not, the first is past the end
  none_in : (l : List ℕ) → list_any t l ≡ false → length l ≤ first t l
  unfolding first pick
  none_in [] e = omega arith
  none_in (x ∷ l) e = go (t x) (none_in l) e
    where
      go : (u : Bool) → (list_any t l ≡ false → length l ≤ first t l) → (u || list_any t l) ≡ false → suc (length l) ≤ pick u 0 (suc (first t l))
      go true ih k = absurd (true≢false k)
      go false ih k = omega (arith, ih k)

  -- a block with none is passed
  pub first_block : (l b d : List ℕ) (i n : ℕ) → drop i l ≡ b ++ d → length b ≡ n → list_any t b ≡ false
      → (n ≤ length l - i) × (d ≡ drop (i + n) l) × (first t (drop i l) ≡ n + first t (drop (i + n) l))
  first_block l b d i n s k e =
      let on : d ≡ drop (i + n) l = sym (drop-append_seam b d) ∙ rw (k, ← s, drop-drop) in
      let room : length l - i ≡ length b + length d = sym (length-drop i l) ∙ ap (λ (z : List ℕ). length z) s ∙ length-append b d in
      (omega (arith, room, k), on, ap (λ (z : List ℕ). first t z) s ∙ first_right b d (none_in b e) ∙ rw (k, on))

  pub first_past : (l : List ℕ) (i n : ℕ) → i + n ≤ length l → list_any t (take n (drop i l)) ≡ false → first t (drop i l) ≡ n + first t (drop (i + n) l)
  first_past l i n h e =
      let d = drop i l in
      let k : length (take n d) ≡ n = length-take-le n d (simp length-drop (omega arith)) in
      (first_block l (take n d) (drop n d) i n (sym (take-append-drop n d)) k e).2

  -- and so from a place within it on
  first_skip : (l : List ℕ) (n : ℕ) → n ≤ first t l → first t l ≡ n + first t (drop n l)
  unfolding first pick
  first_skip l zero h = omega arith
  first_skip [] (suc n) h = absurd (omega arith)
  first_skip (x ∷ l) (suc n) h = go (t x) (first_skip l n) h
    where
      go : (u : Bool) → (n ≤ first t l → first t l ≡ n + first t (drop n l))
          → suc n ≤ pick u 0 (suc (first t l)) → pick u 0 (suc (first t l)) ≡ suc n + first t (drop n l)
      go true ih k = absurd (omega arith)
      go false ih k = omega (arith, ih (omega arith))

  pub first_within : (l : List ℕ) (j i n : ℕ) → j ≤ i → i ≤ j + n → j + n ≤ length l → list_any t (take n (drop j l)) ≡ false
      → i + first t (drop i l) ≡ j + n + first t (drop (j + n) l)
  first_within l j i n p q h e =
      let f = first_past l j n h e in
      let s = first_skip (drop j l) (i - j) (omega arith) in
      let d : drop (i - j) (drop j l) ≡ drop i l = drop-drop (i - j) j l ∙ ap (λ (k : ℕ). drop k l) (add-sub_of_le p) in
      omega (arith, rw d at s)

-- from k on: what is found in a part, and in two lists read as one
module _ (t : ℕ → Bool) where
  pub first_part : (l : List ℕ) (k r : ℕ) → r ≡ first t (take (length l - k) (drop k l)) → (r ≡ first t (drop k l)) × (r ≤ length l - k)
  first_part l k r e =
      let f : r ≡ first t (drop k l) = e ∙ rw (from l k) in
      (f, rw f (rw length-drop at (first_le t (drop k l))))

  module _ (a b : List ℕ) (k : ℕ) where
    pub found_left : k ≤ length a → first t (drop k a) < length a - k → first t (drop k (a ++ b)) ≡ first t (drop k a)
    found_left h l = rw (← drop_left a b k h) (first_left t (drop k a) b (simp length-drop (omega arith)))

    pub found_over : k ≤ length a → length a - k ≤ first t (drop k a) → first t (drop k (a ++ b)) ≡ length a - k + first t b
    found_over h l =
        let n : length (drop k a) ≡ length a - k = length-drop k a in
        rw (← drop_left a b k h) (first_right t (drop k a) b (rw n l) ∙ rw n)

    pub found_right : length a ≤ k → first t (drop k (a ++ b)) ≡ first t (drop (k - length a) b)
    found_right h = rw (← drop_right a b k h)

-- what is found lies in the first list, in the second, or in neither
pub ruleset in_two = (first_le, first_part, found_left, found_over, found_right)

-- of two tests
any_or : (p q : ℕ → Bool) (l : List ℕ) → list_any (λ (x : ℕ). p x || q x) l ≡ (list_any p l || list_any q l)
any_or p q [] = refl
any_or p q (x ∷ l) = rw (any_or p q l) (or_swap (p x) (q x) (list_any p l) (list_any q l))
  where
    or_swap : (a b c d : Bool) → ((a || b) || (c || d)) ≡ ((a || c) || (b || d))
    or_swap true b c d = refl
    or_swap false true true d = refl
    or_swap false true false d = refl
    or_swap false false c d = refl

-- of the sync bytes of modes two and three, each by itself
pub any_two : (l : List ℕ) → list_any (told UbxRtcm) l ≡ (list_any (is 0xB5) l || list_any (is 0xD3) l)
any_two l = any_or (is 0xB5) (is 0xD3) l

pub any_three : (l : List ℕ) → list_any (told UbxRtcmNmea) l ≡ (list_any (is 0xB5) l || list_any (is 0xD3) l || list_any (is 0x24) l)
any_three l = any_or (told UbxRtcm) (is 0x24) l ∙ rw (any_two l)

-- a search for a mode's sync bytes is for those of 01
pub told_syncs : (mode : Mode) → told (syncs_of mode) ≡ is_sync mode
told_syncs (One parity) = fun_ext (λ x. sym (or-false (eqb x 0xB5)))
told_syncs (Two parity) = refl
told_syncs (Three parity) = fun_ext (λ x. or_assoc (eqb x 0xB5) (eqb x 0xD3) (eqb x 0x24))

-- ---- the end mark

-- one byte on, and where fewer than two are left
mark_step : (l : List ℕ) (i : ℕ) → suc i < length l → end_mark i (drop i l) ≡ pick (eqb (get_or l i 0) 0x0D && eqb (get_or l (suc i) 0) 0x0A) (Some i) (end_mark (suc i) (drop (suc i) l))
unfolding end_mark
mark_step l i h = let h' : i < length l = omega arith in rw (drop-cons l i 0 h', drop-cons l (suc i) 0 h)

pub mark_end : (l : List ℕ) (i : ℕ) → length l ≤ suc i → end_mark i (drop i l) ≡ None
unfolding end_mark
mark_end l i h = go (drop i l) (simp length-drop (omega arith))
  where
    go : (d : List ℕ) → length d ≤ 1 → end_mark i d ≡ None
    go [] k = refl
    go (x ∷ []) k = refl
    go (x ∷ y ∷ d) k = absurd (omega arith)

-- no end mark begins before the first CR
mark_skip : (l : List ℕ) (i : ℕ) → end_mark i l ≡ end_mark (i + first (is 0x0D) l) (drop (first (is 0x0D) l) l)
unfolding first end_mark pick
mark_skip [] i = refl
mark_skip (x ∷ l) i = go (eqb x 0x0D) refl (mark_skip l (suc i))
  where
    past : (l : List ℕ) → eqb x 0x0D ≡ false → end_mark i (x ∷ l) ≡ end_mark (suc i) l
    past [] e = refl
    past (y ∷ l) e = rw e

    go : (u : Bool) → eqb x 0x0D ≡ u → end_mark (suc i) l ≡ end_mark (suc i + first (is 0x0D) l) (drop (first (is 0x0D) l) l)
        → end_mark i (x ∷ l) ≡ end_mark (i + pick u 0 (suc (first (is 0x0D) l))) (drop (pick u 0 (suc (first (is 0x0D) l))) (x ∷ l))
    go true e ih = rw add-zero
    go false e ih =
        let n : suc i + first (is 0x0D) l ≡ i + suc (first (is 0x0D) l) = omega arith in
        past l e ∙ ih ∙ ap (λ (k : ℕ). end_mark k (drop (first (is 0x0D) l) l)) n

pub mark_on : (l : List ℕ) (i r : ℕ) → r ≡ i + first (is 0x0D) (drop i l) → end_mark i (drop i l) ≡ end_mark r (drop r l)
mark_on l i r e = mark_skip (drop i l) i ∙ rw (drop-drop, e)

-- a CR without LF, and one with it
module _ (l : List ℕ) (i : ℕ) (h : suc i < length l) where
  pub mark_next : eqb (get_or l (suc i) 0) 0x0A ≡ false → end_mark i (drop i l) ≡ end_mark (suc i) (drop (suc i) l)
  unfolding pick
  mark_next e = mark_step l i h ∙ rw (e, and-false)

  pub mark_here : eqb (get_or l i 0) 0x0D ≡ true → eqb (get_or l (suc i) 0) 0x0A ≡ true → end_mark i (drop i l) ≡ Some i
  unfolding pick
  mark_here e f = mark_step l i h ∙ rw (e, f)

-- where the first is within the list, it is one
first_is : (t : ℕ → Bool) (l : List ℕ) → first t l < length l → t (get_or l (first t l) 0) ≡ true
unfolding first pick
first_is t [] h = absurd (omega arith)
first_is t (x ∷ l) h = go (t x) refl (first_is t l) h
  where
    go : (u : Bool) → t x ≡ u → (first t l < length l → t (get_or l (first t l) 0) ≡ true)
        → pick u 0 (suc (first t l)) < suc (length l) → t (get_or (x ∷ l) (pick u 0 (suc (first t l))) 0) ≡ true
    go true e ih k = e
    go false e ih k = ih (omega arith)

pub first_at : (t : ℕ → Bool) (l : List ℕ) (k r : ℕ) → r ≡ k + first t (drop k l) → r < length l → t (get_or l r 0) ≡ true
first_at t l k r e h =
    let w : first t (drop k l) < length (drop k l) = simp length-drop (omega arith) in
    rw e (rw get_or-drop at (first_is t (drop k l) w))

-- an end mark leaves room for both its bytes
pub mark_within : (k : ℕ) (l : List ℕ) (i : ℕ) → end_mark k l ≡ Some i → i + 2 ≤ k + length l
unfolding end_mark
mark_within k [] i = λ e. let z : ◌≡◌ {A = ℕ} 0 1 = cc in absurd (omega arith)
mark_within k (x ∷ []) i = λ e. let z : ◌≡◌ {A = ℕ} 0 1 = cc in absurd (omega arith)
mark_within k (x ∷ y ∷ l) i =
    by_pick (λ f. f ≡ Some i → i + 2 ≤ k + suc (suc (length l)))
    (λ _ e. let q : k ≡ i = cc in omega arith)
    (λ _ e. omega (arith, mark_within (suc k) (y ∷ l) i e))
