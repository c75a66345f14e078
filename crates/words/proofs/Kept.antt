-- The words that an operation does not write are its state's all the same: they say what was read.
use Rattle.std.specs.Prelude.{Result, Ok, Err, ⊤, Some}
use mathlib.Core.Path.{◌≡◌, refl, sym, ap, ◌∙◌}
use mathlib.Core.Logic.{◌≢◌}
use mathlib.Core.Bool.{true}
use mathlib.Core.List.{List, [], ◌∷◌}
use Prim.Native.Nat.{ℕ, suc}
use native.Mathlib.Omega.{arith}
use lib.ListN.{length, get_or, set}
use lib.Seq.{sets, get_or-set_other}
use Rattle.window.proofs.Pick.{by_pick}
use Rattle.state.specs.declared.State.{State}
use Rattle.state.specs.declared.Refusal.{Refusal}
use Rattle.state.specs.Words.{width, idle}
use Rattle.state.specs.Refusals.{may_open, may_use}
use Rattle.state.proofs.Window.{Setup, setup_of}
use Rattle.state.proofs.Granted.{use_granted}
use Rattle.opening.specs.declared.Closed.{Closed}
use Rattle.opening.specs.Operations.{open_on, opening, close_on, closing}
use Rattle.framer.specs.Step.{step_on, step}
use Rattle.framer.proofs.Account.{step_keeps}
use Rattle.words.specs.Words.{mode_no, open_no, state_by, read_state, with_state, opened_words, stepped_words, closed_words}
use Rattle.words.proofs.Refused.{Said, set_same, read_is, mode_word, open_word, same_words}

-- ---- what an operation keeps of its state

module _ (s : State) (carry chunk : List ℕ) where
  -- an opening: mode, MAX, C and live; and the state is open
  abbrev Opening : State → Type 0
  Opening t = (setup_of t ≡ setup_of s) × ((t.live ≡ s.live) × (t.«open» ≡ true))

  pub open_keeps : (opening s carry chunk).leave ≡ Ok tt → Opening (opening s carry chunk).state
  unfolding opening
  open_keeps = go (may_open s (length carry) (length chunk))
    where
      go : (l : Result ⊤ Refusal) → (open_on s carry chunk l).leave ≡ Ok tt → Opening (open_on s carry chunk l).state
      go (Err r) e = let z : ◌≡◌ {A = ℕ} 0 1 = cc in absurd (omega arith)
      go (Ok tt) e = by_pick Opening (λ _. (refl, (refl, refl))) (λ _. (refl, (refl, refl)))

  pub open_refused : (r : Refusal) → (opening s carry chunk).leave ≡ Err r → (opening s carry chunk).state ≡ s
  unfolding opening
  open_refused r = go (may_open s (length carry) (length chunk))
    where
      go : (l : Result ⊤ Refusal) → (open_on s carry chunk l).leave ≡ Err r → (open_on s carry chunk l).state ≡ s
      go (Err q) e = refl
      go (Ok tt) e = let z : ◌≡◌ {A = ℕ} 0 1 = cc in absurd (omega arith)

  -- a step: mode, MAX, C, open and the chunk's length
  abbrev Stepping : State → Type 0
  Stepping t = (setup_of t ≡ setup_of s) × ((t.«open» ≡ s.«open») × (t.chunk ≡ s.chunk))

  pub step_stays : Stepping (step s carry chunk).result.state
  unfolding step
  step_stays = go (may_use s (length carry) (length chunk)) refl
    where
      go : (l : Result ⊤ Refusal) → may_use s (length carry) (length chunk) ≡ l → Stepping (step_on s carry chunk l).result.state
      go (Err r) e = (refl, (refl, refl))
      go (Ok tt) e =
          let k = step_keeps chunk (suc (width s)) s carry (use_granted s carry chunk e).ready.sane (omega arith) in
          (k.setup, (k.opens, k.chunks))

  -- a close: mode, MAX and C
  pub close_keeps : (closing s carry chunk).result.leave ≡ Ok tt
      → (closing s carry chunk).result.state ≡ idle s.mode s.max s.cap (closing s carry chunk).result.kept
  unfolding closing
  close_keeps = go (may_use s (length carry) (length chunk))
    where
      go : (l : Result ⊤ Refusal) → (close_on s carry chunk l).result.leave ≡ Ok tt
          → (close_on s carry chunk l).result.state ≡ idle s.mode s.max s.cap (close_on s carry chunk l).result.kept
      go (Err r) e = let z : ◌≡◌ {A = ℕ} 0 1 = cc in absurd (omega arith)
      go (Ok tt) e = refl

  abbrev Refused : Closed → Refusal → Type 0
  Refused o r = o ≡ record { leave = Err r; used = 0; kept = 0; lost = 0; state = s }

  pub close_refused : (r : Refusal) → (closing s carry chunk).result.leave ≡ Err r → Refused (closing s carry chunk).result r
  unfolding closing
  close_refused r = go (may_use s (length carry) (length chunk))
    where
      go : (l : Result ⊤ Refusal) → (close_on s carry chunk l).result.leave ≡ Err r → Refused (close_on s carry chunk l).result r
      go (Err q) e = rw e
      go (Ok tt) e = let z : ◌≡◌ {A = ℕ} 0 1 = cc in absurd (omega arith)

-- ---- its words, over those that it was read from

module _ (w : List ℕ) (s : State) (read : read_state w ≡ Some s) where
  said : Said w s
  said = read_is w s read

  pub same : with_state s w ≡ w
  same = rw (← said.state) (same_words w s said)

  first_words : (t : State) → setup_of t ≡ setup_of s → set (set (set w 0 (mode_no t.mode)) 1 t.max) 2 t.cap ≡ w
  first_words t h =
      let k : setup_of t ≡ setup_of (state_by s.mode w) = h ∙ ap setup_of (sym said.state) in
      let m : t.mode ≡ s.mode = ap (λ (x : Setup). x.mode) k in
      let x : t.max ≡ get_or w 1 0 = ap (λ (x : Setup). x.max) k in
      let c : t.cap ≡ get_or w 2 0 = ap (λ (x : Setup). x.cap) k in
      rw (m, x, c, mode_word w s said, set_same w 0, set_same w 1, set_same w 2)

  module _ (carry chunk : List ℕ) where
    pub opened_words_are : (t : State) → Opening s carry chunk t → with_state t w ≡ opened_words t w
    opened_words_are t h =
        let l : t.live ≡ get_or w 3 0 = h.1.0 ∙ ap (λ (x : State). x.live) (sym said.state) in
        rw (first_words t h.0, l, set_same w 3, h.1.1)

    pub stepped_words_are : (t : State) → Stepping s carry chunk t → with_state t w ≡ stepped_words t w
    stepped_words_are t h =
        let back = sym said.state in
        let o : open_no t.«open» ≡ get_or w 6 0 = ap open_no (h.1.0 ∙ ap (λ (x : State). x.«open») back) ∙ open_word w s said in
        let c : t.chunk ≡ get_or w 7 0 = h.1.1 ∙ ap (λ (x : State). x.chunk) back in
        rw (
          first_words t h.0,
          o,
          word_stays t.live t.off t.used 6 (λ z. omega arith) (λ z. omega arith) (λ z. omega arith),
          c,
          word_stays t.live t.off t.used 7 (λ z. omega arith) (λ z. omega arith) (λ z. omega arith),
        )
      where
        -- words behind those stored stay
        word_stays : (x y z i : ℕ) → i ≢ 3 → i ≢ 4 → i ≢ 5 → set (sets w 3 (x ∷ y ∷ z ∷ [])) i (get_or w i 0) ≡ sets w 3 (x ∷ y ∷ z ∷ [])
        word_stays x y z i a b c =
            let g : get_or (sets w 3 (x ∷ y ∷ z ∷ [])) i 0 ≡ get_or w i 0 =
            get_or-set_other (set (set w 3 x) 4 y) 5 i z 0 c ∙ get_or-set_other (set w 3 x) 4 i y 0 b ∙ get_or-set_other w 3 i x 0 a in
            rw (← g) (set_same (sets w 3 (x ∷ y ∷ z ∷ [])) i)

  pub closed_words_are : (kept : ℕ) → with_state (idle s.mode s.max s.cap kept) w ≡ closed_words kept w
  closed_words_are kept = rw (first_words (idle s.mode s.max s.cap kept) refl)
