-- What is said of a UBX frame, for any hand-out test: a frame where the interface description's stands, a wrong sum where all but its checksum does.
use mathlib.Core.Path.{◌≡◌, refl, sym, ap, ◌∙◌}
use mathlib.Core.Bool.{Bool, true, false, ◌&&◌, true≢false}
use mathlib.Core.List.{List, ◌++◌}
use Prim.Native.Nat.{ℕ, ◌≤◌}
use native.Mathlib.Omega.{arith}
use lib.ListN.{length, take, drop}
use lib.Dec.{eqb}
use borrow.Author.Tests.{eqb-true, eq-eqb, ne_eqb}
use Rattle.sum.specs.declared.Sums.{Sums}
use Rattle.sum.specs.Sum.{sum_of, pair_of}
use Rattle.window.specs.declared.Mode.{Mode}
use Rattle.window.specs.Pick.{pick}
use Rattle.window.proofs.Pick.{by_pick}
use Rattle.claim.specs.declared.Kind.{Kind, TheVariants.{Ubx, Rtcm, Sentence}}
use Rattle.claim.specs.declared.Tale.TheVariants.{WrongSum, WrongParity, NoRoom}
use Rattle.claim.specs.declared.Verdict.{Verdict, TheVariants.{Wait, Tell, Hand}}
use Rattle.claim.specs.Sizes.{back, size}
use Rattle.claim.specs.Verdicts.{judge_sum, lacks}
use Rattle.look.specs.declared.Sight.{Sight, TheVariants.{Say}}
use Rattle.look.specs.Rules.{Look, need, pass, claim, look}
use Rattle.look.specs.Moves.{judge, settle}
use Rattle.look.specs.Within.{whole}
use Rattle.stream.specs.Interface.{checksum, summed, framed, GoodFrame, WrongFrame, Bytes}
use Rattle.stream.proofs.Checksum.{checksum_is}
use Rattle.stream.proofs.Framed.{claims, judged, payload_at, claimed}

-- ---- a UBX frame or a wrong sum comes only of a UBX claim that passes the hand-out test

abbrev OfSum : Verdict → Type 0
OfSum (Wait k) = ⊥
OfSum (Tell (WrongSum class id n expect got)) = Unit {0}
OfSum (Tell (WrongParity expect got)) = ⊥
OfSum (Tell (NoRoom drain size)) = ⊥
OfSum (Hand (Ubx class id n)) = Unit {0}
OfSum (Hand (Rtcm n parity)) = ⊥
OfSum (Hand (Sentence i)) = ⊥

rtcm_no_sum : (n : ℕ) (parity : Bool) (W : List ℕ) → OfSum (judge (Rtcm n parity) W) → ⊥
unfolding judge
rtcm_no_sum n true W = by_pick (λ v. OfSum v → ⊥) (λ _ h. h) (λ _ h. h)
rtcm_no_sum n false W = λ h. h

-- both sums, and each of the two outcomes
tests_true : (s t : Bool) → (s && t) ≡ true → (s ≡ true) × (t ≡ true)
tests_true true t e = (refl, e)
tests_true false t e = absurd (true≢false (sym e))

tests_not : (a x b y : ℕ) → (eqb a x && eqb b y) ≡ false → a ≡ x → b ≡ y → ⊥
tests_not a x b y e p q = true≢false (rw (eq-eqb a x p, eq-eqb b y q) at e)

tests_false : (a x b y : ℕ) → (a ≡ x → b ≡ y → ⊥) → (eqb a x && eqb b y) ≡ false
tests_false a x b y h = go (eqb a x) refl
  where
    go : (u : Bool) → eqb a x ≡ u → (u && eqb b y) ≡ false
    go true e = ne_eqb b y (h (eqb-true a x e))
    go false e = refl

-- the two sums are one another's, and the head is the one that is named
module _ (a b : ℕ) (s : Sums) (class id n : ℕ) where
  sum_right : (k : Kind) → judge_sum a b s class id n ≡ Hand k → (Ubx class id n ≡ k) × (a ≡ s.a) × (b ≡ s.b)
  sum_right k =
      by_pick (λ v. v ≡ Hand k → (Ubx class id n ≡ k) × (a ≡ s.a) × (b ≡ s.b))
      (λ t e. let h = tests_true _ _ t in (let q : Ubx class id n ≡ k = cc in q, eqb-true a s.a h.0, eqb-true b s.b h.1))
      (λ _ e. let z : ◌≡◌ {A = ℕ} 0 1 = cc in absurd (omega arith))

  sum_wrong : (c i m expect got : ℕ) → judge_sum a b s class id n ≡ Tell (WrongSum c i m expect got)
      → (a ≡ s.a → b ≡ s.b → ⊥) × (Ubx class id n ≡ Ubx c i m) × (expect ≡ pair_of a b) × (got ≡ pair_of s.a s.b)
  sum_wrong c i m expect got =
      by_pick (λ v. v ≡ Tell (WrongSum c i m expect got) → (a ≡ s.a → b ≡ s.b → ⊥) × (Ubx class id n ≡ Ubx c i m) × (expect ≡ pair_of a b) × (got ≡ pair_of s.a s.b))
      (λ _ e. let z : ◌≡◌ {A = ℕ} 0 1 = cc in absurd (omega arith))
      (λ t e.
      let ec : class ≡ c = cc in
      let ei : id ≡ i = cc in
      let en : n ≡ m = cc in
      (tests_not a s.a b s.b t, rw (ec, ei, en), (let q : expect ≡ pair_of a b = cc in q), (let q : got ≡ pair_of s.a s.b = cc in q)))

module _ (fits : Kind → Bool) (over : Bool) (W : List ℕ) where
  abbrev ByClaim : Look → Verdict → Type 0
  ByClaim l v = (class : ℕ) × (id : ℕ) × (n : ℕ) × (l ≡ claim (Ubx class id n)) × (fits (Ubx class id n) ≡ true) × (judge (Ubx class id n) W ≡ v)

  by_judge : (kind : Kind) (v : Verdict) → OfSum v → fits kind ≡ true → judge kind W ≡ v → ByClaim (claim kind) v
  by_judge (Ubx class id n) v o f = λ e. (class, id, n, refl, f, e)
  by_judge (Rtcm n parity) v o f = λ e. absurd (rtcm_no_sum n parity W (rw e o))
  by_judge (Sentence i) v o f = λ e. absurd (let x : OfSum (judge (Sentence i) W) = rw e o in unfold judge in x)

  by_lacks : (drain size : ℕ) (o : Bool) → OfSum (lacks o drain size) → ⊥
  by_lacks drain size true h = h
  by_lacks drain size false h = h

  by_claim : (l : Look) (v : Verdict) → OfSum v → settle fits over W l ≡ Say v → ByClaim l v
  by_claim (need k) v o = λ e. let q : v ≡ Wait k = cc in let x : OfSum (Wait k) = rw q at o in absurd x
  by_claim (pass y) v o = λ e. let z : ◌≡◌ {A = ℕ} 0 1 = cc in absurd (omega arith)
  by_claim (claim kind) v o =
      by_pick (λ u. Say u ≡ Say v → ByClaim (claim kind) v)
      (λ t e. by_judge kind v o t (let q : judge kind W ≡ v = cc in q))
      (λ _ e. absurd (by_lacks (back kind) (size kind) over (let q : lacks over (back kind) (size kind) ≡ v = cc in rw q o)))

-- ---- what is said, for any hand-out test

module _ (mode : Mode) (max : ℕ) (W : List ℕ) (fits : Kind → Bool) (over : Bool) where
  abbrev move : Sight
  move = settle fits over W (look mode max W)

  -- a claim that passes the test is judged
  judges : (class id : ℕ) (payload : List ℕ) (a b : ℕ) (rest : List ℕ) → W ≡ framed class id payload a b ++ rest → length payload ≤ max → fits (Ubx class id (length payload)) ≡ true
      → move ≡ Say (judge_sum a b (sum_of (summed class id payload)) class id (length payload))
  unfolding pick
  judges class id payload a b rest stands h t =
      rw (claims class id payload a b rest W stands mode max h, t) (ap Say (judged class id payload a b rest W stands))

  pub frame_said : (class id : ℕ) (payload : List ℕ) → GoodFrame max W class id payload → fits (Ubx class id (length payload)) ≡ true → move ≡ Say (Hand (Ubx class id (length payload)))
  unfolding pick
  frame_said class id payload g t =
      let ck = checksum (summed class id payload) in
      let c = checksum_is (summed class id payload) in
      judges class id payload ck.ck_a ck.ck_b g.rest g.stands g.fits t
      ∙ rw (eq-eqb _ _ c.0, eq-eqb _ _ c.1)

  pub wrong_said : (class id : ℕ) (payload : List ℕ) (expect got : ℕ) → WrongFrame max W class id payload expect got → fits (Ubx class id (length payload)) ≡ true
      → move ≡ Say (Tell (WrongSum class id (length payload) expect got))
  unfolding pick
  wrong_said class id payload expect got w t =
      let c = checksum_is (summed class id payload) in
      let sum = sum_of (summed class id payload) in
      let no : (eqb w.a sum.a && eqb w.b sum.b) ≡ false = tests_false _ _ _ _ (λ e h. w.wrong (e ∙ sym c.0) (h ∙ sym c.1)) in
      judges class id payload w.a w.b w.rest w.stands w.fits t ∙ rw (no, w.pair, w.true_pair, c.0, c.1)

  module _ (bytes : Bytes W) (sound : (kind : Kind) → fits kind ≡ true → whole kind ≤ length W) where
    -- what was said was said of a head, a payload and two bytes
    pub record Read (v : Verdict) : Type 0 where
      pub class : ℕ
      pub id : ℕ
      pub payload : List ℕ
      pub a : ℕ
      pub b : ℕ
      pub rest : List ℕ
      pub stands : W ≡ framed class id payload a b ++ rest
      pub small : length payload ≤ max
      pub passed : fits (Ubx class id (length payload)) ≡ true
      pub verdict : judge_sum a b (sum_of (summed class id payload)) class id (length payload) ≡ v

    said_of : (v : Verdict) → OfSum v → move ≡ Say v → Read v
    said_of v o e =
        let (class, id, n, l, t, j) = by_claim fits over W (look mode max W) v o e in
        let c = claimed mode max W bytes class id n l (sound (Ubx class id n) t) in
        record {
          class = class;
          id = id;
          payload = c.payload;
          a = c.a;
          b = c.b;
          rest = c.rest;
          stands = c.stands;
          small = rw c.counts c.fits;
          passed = rw c.counts t;
          verdict = sym (judged class id c.payload c.a c.b c.rest W c.stands) ∙ rw c.counts j;
        }

    -- where the head is the one that is named, and this is the payload behind it, they are what was read
    module _ (class id : ℕ) (payload : List ℕ) (v : Verdict) (r : Read v) (k : Ubx r.class r.id (length r.payload) ≡ Ubx class id (length payload))
        (p : take (length payload) (drop 6 W) ≡ payload) where
      same_length : length r.payload ≡ length payload
      same_length = cc

      same_head : (r.class ≡ class) × (r.id ≡ id)
      same_head = ((let e : r.class ≡ class = cc in e), (let e : r.id ≡ id = cc in e))

      same_payload : r.payload ≡ payload
      same_payload = sym (rw same_length at (payload_at r.class r.id r.payload r.a r.b r.rest W r.stands)) ∙ p

      stood : W ≡ framed class id payload r.a r.b ++ r.rest
      stood = rw (same_head.0, same_head.1, same_payload) at r.stands

      fitted : length payload ≤ max
      fitted = rw (← same_length) r.small

      passed_on : fits (Ubx class id (length payload)) ≡ true
      passed_on = rw (same_head.0, same_head.1, same_length) at r.passed

      summed_is : summed r.class r.id r.payload ≡ summed class id payload
      summed_is = rw (same_head.0, same_head.1, same_payload)

    pub said_frame : (class id : ℕ) (payload : List ℕ) → move ≡ Say (Hand (Ubx class id (length payload))) → take (length payload) (drop 6 W) ≡ payload
        → GoodFrame max W class id payload × (fits (Ubx class id (length payload)) ≡ true)
    said_frame class id payload e p =
        let v = Hand (Ubx class id (length payload)) in
        let r = said_of v tt e in
        let j = sum_right r.a r.b (sum_of (summed r.class r.id r.payload)) r.class r.id (length r.payload) (Ubx class id (length payload)) r.verdict in
        let is = summed_is class id payload v r j.0 p in
        let c = checksum_is (summed class id payload) in
        let ea : r.a ≡ (checksum (summed class id payload)).ck_a = rw is at j.1 ∙ sym c.0 in
        let eb : r.b ≡ (checksum (summed class id payload)).ck_b = rw is at j.2 ∙ sym c.1 in (
          record { fits = fitted class id payload v r j.0 p; rest = r.rest; stands = rw (ea, eb) at (stood class id payload v r j.0 p) },
          passed_on class id payload v r j.0 p,
        )

    pub said_wrong : (class id : ℕ) (payload : List ℕ) (expect got : ℕ) → move ≡ Say (Tell (WrongSum class id (length payload) expect got))
        → take (length payload) (drop 6 W) ≡ payload
        → WrongFrame max W class id payload expect got × (fits (Ubx class id (length payload)) ≡ true)
    said_wrong class id payload expect got e p =
        let v = Tell (WrongSum class id (length payload) expect got) in
        let r = said_of v tt e in
        let j = sum_wrong r.a r.b (sum_of (summed r.class r.id r.payload)) r.class r.id (length r.payload) class id (length payload) expect got r.verdict in
        let is = summed_is class id payload v r j.1 p in
        let c = checksum_is (summed class id payload) in (
          record {
            a = r.a;
            b = r.b;
            rest = r.rest;
            fits = fitted class id payload v r j.1 p;
            stands = stood class id payload v r j.1 p;
            wrong = λ x y. j.0 (x ∙ c.0 ∙ rw is) (y ∙ c.1 ∙ rw is);
            pair = j.2;
            true_pair = j.3 ∙ rw (is, c.0, c.1);
          },
          passed_on class id payload v r j.1 p,
        )

    -- what is said to have a wrong sum has a payload as long as is said
    pub wrong_read : (class id n expect got : ℕ) → move ≡ Say (Tell (WrongSum class id n expect got))
        → (payload : List ℕ) × WrongFrame max W class id payload expect got × (length payload ≡ n)
    wrong_read class id n expect got e =
        let r = said_of (Tell (WrongSum class id n expect got)) tt e in
        let j = sum_wrong r.a r.b (sum_of (summed r.class r.id r.payload)) r.class r.id (length r.payload) class id n expect got r.verdict in
        let k : Ubx r.class r.id (length r.payload) ≡ Ubx class id n = j.1 in
        let len : length r.payload ≡ n = cc in
        let p = payload_at r.class r.id r.payload r.a r.b r.rest W r.stands in
        (r.payload, (said_wrong class id r.payload expect got (rw len e) p).0, len)
