-- Where the interface description's head, a payload and two bytes stand at the front of a window, a UBX frame is claimed, and nowhere else.
use mathlib.Core.Path.{◌≡◌, refl, sym, ◌∙◌}
use mathlib.Core.Bool.{Bool}
use mathlib.Core.List.{List, [], ◌∷◌, ◌++◌, append_assoc}
use Prim.Native.Nat.{ℕ, suc, ◌+◌, ◌≤◌, ◌<◌}
use native.Mathlib.Numerals.{add-one, add-four, add_six, add_seven}
use native.Mathlib.Omega.{arith}
use lib.ListN.{length, get_or, take, drop, length-append, length-drop, take-append-drop}
use lib.Seq.{drop-cons, take_at, get_or_at, get_or-append-add, length-take-le}
use borrow.Author.Tests.{ltb-false, eqb-true, not-false}
use Rattle.std.specs.Prelude.{Option, Some, None}
use Rattle.sum.specs.Sum.{sum_of, pair_of}
use Rattle.window.specs.declared.Mode.{Mode}
use Rattle.window.specs.Pick.{pick}
use Rattle.window.specs.Sync.{has_parity}
use Rattle.window.specs.EndMark.{end_mark}
use Rattle.window.proofs.Pick.{by_pick}
use Rattle.claim.specs.declared.Kind.TheVariants.{Ubx}
use Rattle.claim.specs.Verdicts.{judge_sum}
use Rattle.look.specs.Rules.{Look, claim, look_ubx, look_rtcm, end_at, look_nmea, look}
use Rattle.look.specs.Moves.{judge}
use Rattle.look.specs.Within.{whole}
use Rattle.look.proofs.Rules.{ubx_claims}
use Rattle.stream.specs.Interface.{length_bytes, summed, framed, Bytes}

-- ---- there the head claims a frame, and the two bytes are held to the sum

-- the length's two bytes
abbrev low : List ℕ → ℕ
low payload = get_or (length_bytes payload) 0 0

abbrev high : List ℕ → ℕ
high payload = get_or (length_bytes payload) 1 0

pair_is : (payload : List ℕ) → pair_of (low payload) (high payload) ≡ length payload
pair_is payload = omega arith

module _ (class id : ℕ) (payload : List ℕ) (a b : ℕ) (rest W : List ℕ) (stands : W ≡ framed class id payload a b ++ rest) where
  abbrev n : ℕ
  n = length payload

  -- the bytes behind the head
  behind : List ℕ
  behind = payload ++ (a ∷ b ∷ rest)

  bytes_are : W ≡ 0xB5 ∷ 0x62 ∷ class ∷ id ∷ low payload ∷ high payload ∷ behind
  unfolding behind
  bytes_are = stands ∙ rw append_assoc

  pub whole_in : whole (Ubx class id n) ≤ length W
  unfolding behind
  whole_in = rw (bytes_are, length-append) (omega arith)

  pub claims : (mode : Mode) (max : ℕ) → n ≤ max → look mode max W ≡ claim (Ubx class id n)
  unfolding look pick behind
  claims mode max h =
      let L : List ℕ = 0xB5 ∷ 0x62 ∷ class ∷ id ∷ low payload ∷ high payload ∷ behind in
      let long : 6 ≤ length L = omega arith in
      let is : pair_of (low payload) (high payload) ≡ n = pair_is payload in
      let small : pair_of (low payload) (high payload) ≤ max = rw is h in
      rw bytes_are (ubx_claims max L long refl small ∙ rw is)

  pub judged : judge (Ubx class id n) W ≡ judge_sum a b (sum_of (summed class id payload)) class id n
  unfolding judge behind
  judged =
      let at_a : get_or W (n + 6) 0 ≡ a = rw (bytes_are, add_six) (get_or_at payload a (b ∷ rest) 0 n refl) in
      let at_b : get_or W (n + 7) 0 ≡ b = rw (bytes_are, add_seven, ← add-one n) (get_or-append-add payload (a ∷ b ∷ rest) 1 0) in
      let part : take (n + 4) (drop 2 W) ≡ summed class id payload = rw (bytes_are, add-four, take_at payload (a ∷ b ∷ rest) n refl) in
      rw (at_a, at_b, part)

  -- the payload, and the body that is handed out
  pub payload_at : take n (drop 6 W) ≡ payload
  unfolding behind
  payload_at = rw (bytes_are, take_at payload (a ∷ b ∷ rest) n refl)

  pub body_stands : take (n + 2) (drop 6 W) ≡ payload ++ a ∷ b ∷ []
  body_stands = rw (stands, take_at (payload ++ a ∷ b ∷ []) rest (n + 2) (length-append payload (a ∷ b ∷ [])))

-- ---- the other way: where a frame is claimed and whole, a head, a payload and two bytes stand

pub record Claimed (max : ℕ) (W : List ℕ) (class id n : ℕ) : Type 0 where
  pub payload : List ℕ
  pub a : ℕ
  pub b : ℕ
  pub rest : List ℕ
  pub stands : W ≡ framed class id payload a b ++ rest
  pub counts : length payload ≡ n
  pub fits : n ≤ max

six : (W : List ℕ) → 6 ≤ length W → W ≡ get_or W 0 0 ∷ get_or W 1 0 ∷ get_or W 2 0 ∷ get_or W 3 0 ∷ get_or W 4 0 ∷ get_or W 5 0 ∷ drop 6 W
six [] h = absurd (omega arith)
six (x₀ ∷ []) h = absurd (omega arith)
six (x₀ ∷ x₁ ∷ []) h = absurd (omega arith)
six (x₀ ∷ x₁ ∷ x₂ ∷ []) h = absurd (omega arith)
six (x₀ ∷ x₁ ∷ x₂ ∷ x₃ ∷ []) h = absurd (omega arith)
six (x₀ ∷ x₁ ∷ x₂ ∷ x₃ ∷ x₄ ∷ []) h = absurd (omega arith)
six (x₀ ∷ x₁ ∷ x₂ ∷ x₃ ∷ x₄ ∷ x₅ ∷ W) h = refl

two_more : (n : ℕ) (R : List ℕ) → n + 2 ≤ length R → R ≡ (take n R ++ get_or R n 0 ∷ get_or R (suc n) 0 ∷ []) ++ drop (suc (suc n)) R
two_more n R h =
    let p : n < length R = omega arith in
    let q : suc n < length R = omega arith in
    sym (take-append-drop n R) ∙ rw (drop-cons R n 0 p, drop-cons R (suc n) 0 q, append_assoc)

head_claimed : (max : ℕ) (W : List ℕ) → get_or W 4 0 < 256 → get_or W 0 0 ≡ 0xB5 → get_or W 1 0 ≡ 0x62 → (n : ℕ) → pair_of (get_or W 4 0) (get_or W 5 0) ≡ n → n ≤ max
    → whole (Ubx (get_or W 2 0) (get_or W 3 0) n) ≤ length W → Claimed max W (get_or W 2 0) (get_or W 3 0) n
head_claimed max W byte front pair n is small w =
    let long : 6 ≤ length W = omega arith in
    let R = drop 6 W in
    let more : n + 2 ≤ length R = rw length-drop (omega arith) in
    let len : length (take n R) ≡ n = length-take-le n R (omega arith) in
    let el : get_or W 4 0 ≡ low (take n R) = omega arith in
    let eh : get_or W 5 0 ≡ high (take n R) = omega arith in
    record {
      payload = take n R;
      a = get_or R n 0;
      b = get_or R (suc n) 0;
      rest = drop (suc (suc n)) R;
      stands = six W long ∙ rw (front, pair, el, eh, ← two_more n R more);
      counts = len;
      fits = small;
    }

ubx_claimed : (max : ℕ) (W : List ℕ) → Bytes W → get_or W 0 0 ≡ 0xB5 → (class id n : ℕ) → look_ubx max W ≡ claim (Ubx class id n)
    → whole (Ubx class id n) ≤ length W → Claimed max W class id n
unfolding look_ubx
ubx_claimed max W bytes front class id n =
    let P : Look → Type 0 = λ l. l ≡ claim (Ubx class id n) → whole (Ubx class id n) ≤ length W → Claimed max W class id n in
    by_pick P (λ _ e _. let z : ◌≡◌ {A = ℕ} 0 1 = cc in absurd (omega arith))
    (λ _. by_pick P (λ _ e _. let z : ◌≡◌ {A = ℕ} 0 1 = cc in absurd (omega arith))
    (λ t. by_pick P (λ _ e _. let z : ◌≡◌ {A = ℕ} 0 1 = cc in absurd (omega arith))
    (λ _. by_pick P (λ _ e _. let z : ◌≡◌ {A = ℕ} 0 1 = cc in absurd (omega arith))
    (λ over e w.
    let ec : get_or W 2 0 ≡ class = cc in
    let ei : get_or W 3 0 ≡ id = cc in
    let is : pair_of (get_or W 4 0) (get_or W 5 0) ≡ n = cc in
    let small : n ≤ max = rw (← is) (ltb-false max (pair_of (get_or W 4 0) (get_or W 5 0)) over) in
    rw (ec, ei) at (head_claimed max W (bytes 4) front (eqb-true (get_or W 1 0) 0x62 (not-false _ t)) n is small w)))))

rtcm_other : (parity : Bool) (W : List ℕ) (class id n : ℕ) → look_rtcm parity W ≡ claim (Ubx class id n) → ⊥
unfolding look_rtcm
rtcm_other parity W class id n =
    by_pick (λ l. l ≡ claim (Ubx class id n) → ⊥)
    (λ _ e. let z : ◌≡◌ {A = ℕ} 0 1 = cc in omega arith)
    (λ _ e. let z : ◌≡◌ {A = ℕ} 0 1 = cc in omega arith)

end_other : (mode : Mode) (W : List ℕ) (f : Option ℕ) (class id n : ℕ) → end_at mode W f ≡ claim (Ubx class id n) → ⊥
end_other mode W (Some i) class id n = λ e. let z : ◌≡◌ {A = ℕ} 0 1 = cc in omega arith
end_other mode W None class id n =
    let P : Look → Type 0 = λ l. l ≡ claim (Ubx class id n) → ⊥ in
    by_pick P (λ _ e. let z : ◌≡◌ {A = ℕ} 0 1 = cc in omega arith)
    (λ _. by_pick P (λ _ e. let z : ◌≡◌ {A = ℕ} 0 1 = cc in omega arith) (λ _ e. let z : ◌≡◌ {A = ℕ} 0 1 = cc in omega arith))

pub claimed : (mode : Mode) (max : ℕ) (W : List ℕ) → Bytes W → (class id n : ℕ) → look mode max W ≡ claim (Ubx class id n) → whole (Ubx class id n) ≤ length W → Claimed max W class id n
unfolding look look_nmea
claimed mode max [] bytes class id n = λ e. let z : ◌≡◌ {A = ℕ} 0 1 = cc in absurd (omega arith)
claimed mode max (x ∷ xs) bytes class id n =
    let W : List ℕ = x ∷ xs in
    let P : Look → Type 0 = λ l. l ≡ claim (Ubx class id n) → whole (Ubx class id n) ≤ length W → Claimed max W class id n in
    by_pick P
    (λ _. by_pick P (λ t. ubx_claimed max W bytes (eqb-true x 0xB5 t) class id n)
    (λ _. by_pick P (λ _ e _. absurd (rtcm_other (has_parity mode) W class id n e))
    (λ _. by_pick P (λ _ e _. let z : ◌≡◌ {A = ℕ} 0 1 = cc in absurd (omega arith)) (λ _ e _. absurd (end_other mode W (end_mark 0 W) class id n e)))))
    (λ _ e _. let z : ◌≡◌ {A = ℕ} 0 1 = cc in absurd (omega arith))
