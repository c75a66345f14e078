-- Where RTCM 10403's frame stands at the front of a window it is handed out, and nowhere else: in mode two with parity.
use mathlib.Core.Path.{◌≡◌, refl, sym, ap, ap₂, ◌∙◌}
use mathlib.Core.Bool.{true}
use mathlib.Core.List.{List, [], ◌∷◌, ◌++◌, append_assoc}
use Prim.Native.Nat.{ℕ, suc, ◌+◌, ◌*◌, ◌/◌, ◌%◌, ◌≤◌, ◌<◌}
use native.Mathlib.Numerals.{add-one, add-two, add-three, add-four, add_five}
use native.Mathlib.Omega.{arith}
use lib.ListN.{length, get_or, take, drop, length-append, length-drop, take-append-drop}
use lib.Seq.{drop-cons, take_at, get_or_at, get_or-append-add, length-take-le}
use borrow.Author.Tests.{le-leb, eq-eqb}
use Rattle.parity.specs.Parity.{parity_of, word_of}
use Rattle.window.specs.declared.Mode.TheVariants.{Two}
use Rattle.window.specs.Pick.{pick}
use Rattle.claim.specs.declared.Kind.TheVariants.{Rtcm}
use Rattle.claim.specs.declared.Verdict.TheVariants.{Hand}
use Rattle.look.specs.declared.Sight.TheVariants.{Say}
use Rattle.look.specs.Rules.{claim, look}
use Rattle.look.specs.Moves.{judge}
use Rattle.look.proofs.Rules.{rtcm_claims}
use Rattle.stream.specs.Scan.{body, scan_move}
use Rattle.stream.specs.Interface.{Bytes}
use Rattle.stream.specs.Rtcm.{headed, parity_bytes, rtcm, longest, GoodRtcm, WrongRtcm}
use Rattle.stream.proofs.Headed.{received, computed}

-- the head's two bytes hold the length, whatever the reserved bits, and the three bytes the parity
length_held : (reserved n : ℕ) → n ≤ longest → (256 * (4 * reserved + n / 256) + n % 256) % 1024 ≡ n
length_held reserved n h = omega arith

parity_held : (crc : ℕ) → word_of (crc / 65536) (crc / 256 % 256) (crc % 256) ≡ crc
parity_held crc = omega arith

three_bytes : (h m l : ℕ) → m < 256 → l < 256 → parity_bytes (word_of h m l) ≡ h ∷ m ∷ l ∷ []
three_bytes h m l bm bl =
    let high : word_of h m l / 65536 ≡ h = omega arith in
    let middle : word_of h m l / 256 % 256 ≡ m = omega arith in
    let low : word_of h m l % 256 ≡ l = omega arith in
    rw (high, middle, low)

module _ (reserved : ℕ) (message rest W : List ℕ) (fits : length message ≤ longest) (stands : W ≡ rtcm reserved message ++ rest) where
  abbrev n : ℕ
  n = length message

  abbrev crc : ℕ
  crc = parity_of (headed reserved message)

  bytes_are : W ≡ headed reserved message ++ (parity_bytes crc ++ rest)
  bytes_are = stands ∙ append_assoc (headed reserved message) (parity_bytes crc) rest

  whole_in : n + 6 ≤ length W
  whole_in = rw (bytes_are, length-append) (omega arith)

  claims : (max : ℕ) → look (Two true) max W ≡ claim (Rtcm n true)
  unfolding look pick
  claims max =
      let L : List ℕ = headed reserved message ++ (parity_bytes crc ++ rest) in
      rw bytes_are (rtcm_claims true L _ _ refl refl (omega arith) ∙ rw (length_held reserved n fits))

  received_is : received W n ≡ crc
  received_is =
      let B = parity_bytes crc ++ rest in
      let h : get_or W (n + 3) 0 ≡ crc / 65536 = rw (bytes_are, add-three) (get_or_at message (crc / 65536) (crc / 256 % 256 ∷ crc % 256 ∷ rest) 0 n refl) in
      let m : get_or W (n + 4) 0 ≡ crc / 256 % 256 = rw (bytes_are, add-four, ← add-one n) (get_or-append-add message B 1 0) in
      let l : get_or W (n + 5) 0 ≡ crc % 256 = rw (bytes_are, add_five, ← add-two n) (get_or-append-add message B 2 0) in
      rw (h, m, l) (parity_held crc)

  computed_is : computed W n ≡ crc
  computed_is = ap parity_of (rw (bytes_are, add-three, take_at message (parity_bytes crc ++ rest) n refl))

  judged : judge (Rtcm n true) W ≡ Hand (Rtcm n true)
  unfolding judge pick
  judged = rw (eq-eqb (received W n) (computed W n) (received_is ∙ sym computed_is))

  pub good_body : body (Rtcm n true) W ≡ rtcm reserved message
  good_body = rw (stands, take_at (rtcm reserved message) rest (n + 6) (length-append (headed reserved message) (parity_bytes crc) ∙ omega arith))

  pub good_hands : (max : ℕ) → scan_move (Two true) max W ≡ Say (Hand (Rtcm n true))
  unfolding scan_move pick
  good_hands max = rw (claims max, le-leb (0 + (n + 6)) (length W) (omega (arith, whole_in)), judged)

-- ---- the other way: where a whole frame is handed out, RTCM 10403's stands

three : (W : List ℕ) → 3 ≤ length W → W ≡ get_or W 0 0 ∷ get_or W 1 0 ∷ get_or W 2 0 ∷ drop 3 W
three [] h = absurd (omega arith)
three (x₀ ∷ []) h = absurd (omega arith)
three (x₀ ∷ x₁ ∷ []) h = absurd (omega arith)
three (x₀ ∷ x₁ ∷ x₂ ∷ W) h = refl

module _ (W : List ℕ) (bytes : Bytes W) (n : ℕ) (front : get_or W 0 0 ≡ 0xD3) (counts : n ≡ (256 * get_or W 1 0 + get_or W 2 0) % 1024)
    (whole : n + 6 ≤ length W) where
  abbrev pub reserved_of : ℕ
  reserved_of = get_or W 1 0 / 4

  abbrev pub message_of : List ℕ
  message_of = take n (drop 3 W)

  pub length_of : length message_of ≡ n
  length_of = length-take-le n (drop 3 W) (rw length-drop (omega arith))

  short : n ≤ longest
  short = omega arith

  head_of : headed reserved_of message_of ≡ take (n + 3) W
  head_of =
      let b : get_or W 2 0 < 256 = bytes 2 in
      let one : 4 * (get_or W 1 0 / 4) + n / 256 ≡ get_or W 1 0 = omega arith in
      let two : n % 256 ≡ get_or W 2 0 = omega arith in
      rw (length_of, one, two, add-three) (sym (ap (take (suc (suc (suc n)))) (three W (omega arith)) ∙ rw front))

  -- the three bytes behind it
  last_of : drop (n + 3) W ≡ get_or W (n + 3) 0 ∷ get_or W (n + 4) 0 ∷ get_or W (n + 5) 0 ∷ drop (n + 6) W
  last_of =
      let p : n + 3 < length W = omega arith in
      let q : n + 4 < length W = omega arith in
      let r : n + 5 < length W = omega arith in
      let e4 : suc (n + 3) ≡ n + 4 = omega arith in
      let e5 : suc (n + 4) ≡ n + 5 = omega arith in
      let e6 : suc (n + 5) ≡ n + 6 = omega arith in
      drop-cons W (n + 3) 0 p ∙ rw (e4, drop-cons W (n + 4) 0 q, e5, drop-cons W (n + 5) 0 r, e6)

  parity_of_is : received W n ≡ computed W n → parity_bytes (computed W n) ≡ get_or W (n + 3) 0 ∷ get_or W (n + 4) 0 ∷ get_or W (n + 5) 0 ∷ []
  parity_of_is e = ap parity_bytes (sym e) ∙ three_bytes (get_or W (n + 3) 0) (get_or W (n + 4) 0) (get_or W (n + 5) 0) (bytes (n + 4)) (bytes (n + 5))

  pub stands_good : received W n ≡ computed W n → GoodRtcm W reserved_of message_of
  stands_good e =
      let H = headed reserved_of message_of in
      let P = parity_bytes (parity_of H) in
      let X = drop (n + 6) W in
      let p : P ≡ get_or W (n + 3) 0 ∷ get_or W (n + 4) 0 ∷ get_or W (n + 5) 0 ∷ [] = ap (λ (h : List ℕ). parity_bytes (parity_of h)) head_of ∙ parity_of_is e in
      record {
        fits = rw length_of short;
        rest = X;
        stands =
            sym (take-append-drop (n + 3) W)
            ∙ ap₂ (λ (h l : List ℕ). h ++ l) (sym head_of) (last_of ∙ ap (λ (l : List ℕ). l ++ X) (sym p))
            ∙ sym (append_assoc H P X);
      }

  pub stands_wrong : (expect got : ℕ) → expect ≡ received W n → got ≡ computed W n → (expect ≡ got → ⊥) → WrongRtcm W reserved_of message_of expect got
  stands_wrong expect got ex eg ne = record {
    high = get_or W (n + 3) 0;
    middle = get_or W (n + 4) 0;
    low = get_or W (n + 5) 0;
    rest = drop (n + 6) W;
    fits = rw length_of short;
    stands = sym (take-append-drop (n + 3) W) ∙ ap₂ (λ (h l : List ℕ). h ++ l) (sym head_of) last_of;
    as_received = ex ∙ omega arith;
    as_computed = eg ∙ ap parity_of (sym head_of);
    wrong = ne;
  }
