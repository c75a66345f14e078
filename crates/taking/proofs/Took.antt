-- What taking does to the window.
use mathlib.Core.Path.{◌≡◌, refl, sym, ◌∙◌}
use mathlib.Core.Logic.{◌≢◌}
use Prim.Native.Nat.{ℕ, ◌+◌, ◌-◌, ◌≤◌, ◌<◌}
use mathlib.Core.List.{List, [], ◌++◌, append_assoc}
use native.Mathlib.Omega.{arith}
use lib.ListN.{length, take, drop, length-take, length-append, take-append-drop, drop_of_length-le}
use lib.Seq.{take-append-le, drop-append-le, take-take, drop-drop, take_at, take-paste, paste, length-take-le, length-paste}
use borrow.Author.Tests.{ltb-true, leb-true, leb-false, eqb-true, eqb-false}
use Rattle.carry.specs.Carry.{drain_carry}
use Rattle.carry.proofs.Laws.{drop_take}
use Rattle.window.proofs.Pick.{by_pick}
use Rattle.state.specs.declared.State.{State}
use Rattle.state.specs.Words.{left, left_len, ahead, window, width, fitting}
use Rattle.state.specs.Ready.{Sane}
use Rattle.state.proofs.Window.{setup_of, drop_both, left_length, ahead_length, drained_length}
use Rattle.taking.specs.declared.Side.TheVariants.{Carry, Chunk}
use Rattle.taking.specs.View.{view}
use Rattle.taking.specs.Take.{TakeOut, take_chunk, take_carry, take_grow, take_shift, taking}
use Rattle.taking.proofs.Places.{view_good}

-- ---- a front: what is left of the carry, and the first j bytes of what is ahead

module _ (L A : List ℕ) (j t : ℕ) (h : t ≤ length (L ++ take j A)) where
  front_drop : drop t (L ++ take j A) ++ drop j A ≡ drop t (L ++ A)
  front_drop = sym (drop-append-le t (L ++ take j A) (drop j A) h) ∙ rw (append_assoc, take-append-drop)

  front_take : (R : List ℕ) → take t ((L ++ take j A) ++ R) ≡ take t (L ++ A)
  front_take R = take-append-le t (L ++ take j A) R h ∙ sym (take-append-le t (L ++ take j A) (drop j A) h) ∙ rw (append_assoc, take-append-drop)

-- ---- taking t bytes: what is viewed is the window's first t bytes, and the window is then the rest

pub record Took (s : State) (carry chunk : List ℕ) (t : ℕ) (r : TakeOut) : Type 0 where
  pub seen : view r.carry chunk r.result.place ≡ take t (window s carry chunk)
  pub rests : window r.result.state r.carry chunk ≡ drop t (window s carry chunk)
  pub sane : Sane r.result.state r.carry chunk
  pub count : r.result.state.used ≡ s.used + t
  pub setup : setup_of r.result.state ≡ setup_of s
  pub opens : r.result.state.«open» ≡ s.«open»
  pub chunks : r.result.state.chunk ≡ s.chunk

module _ (s : State) (carry chunk : List ℕ) (ok : Sane s carry chunk) (t : ℕ) (fits : t ≤ width s) where
  took_chunk : left_len s ≡ 0 → Took s carry chunk t (take_chunk s carry t)
  took_chunk e =
      let n : left s carry ≡ [] = drop_of_length-le (take s.live carry) {i = s.off} (rw (length-take-le s.live carry (omega (arith, ok.caps, ok.lives))) (omega arith)) in
      record {
        seen = rw n (view_good carry chunk (record { side = Chunk; start = s.part; len = t }) (omega (arith, ok.chunks, ok.parts)));
        rests = rw (n, drop-drop t s.part chunk);
        sane = record { caps = ok.caps; lives = ok.lives; offs = ok.offs; parts = omega (arith, ok.parts); chunks = ok.chunks };
        count = refl;
        setup = refl;
        opens = refl;
        chunks = refl;
      }

  took_carry : t ≤ left_len s → Took s carry chunk t (take_carry s carry t)
  took_carry h =
      let l : t ≤ length (left s carry) = rw (left_length s carry chunk ok) h in
      let e : s.live ≡ s.off + left_len s = omega (arith, ok.offs) in
      let d : take t (drop s.off carry) ≡ take t (left s carry) = rw (e, drop_take s.off (left_len s) carry) (sym (take-take t (left_len s) (drop s.off carry) h)) in
      record {
        seen = rw (take-append-le t (left s carry) (ahead s chunk) l, ← d) (view_good carry chunk (record { side = Carry; start = s.off; len = t }) (omega (arith, ok.caps, ok.lives, ok.offs)));
        rests = rw (drop-append-le t (left s carry) (ahead s chunk) l, drop-drop t s.off (take s.live carry));
        sane = record { caps = ok.caps; lives = ok.lives; offs = omega (arith, ok.offs); parts = ok.parts; chunks = ok.chunks };
        count = refl;
        setup = refl;
        opens = refl;
        chunks = refl;
      }

  module _ (both : 0 < left_len s) (more : left_len s < t) where
    took_grow : t - left_len s < s.cap - s.live → Took s carry chunk t (take_grow s carry chunk t)
    took_grow h =
        let L = left s carry in
        let A = ahead s chunk in
        let j : ℕ = fitting s s.live in
        let lv : s.live ≤ length carry = omega (arith, ok.caps, ok.lives) in
        let ja : j ≤ length A = rw (ahead_length s carry chunk ok) (omega arith) in
        let tl : length (take s.live carry) ≡ s.live = length-take-le s.live carry lv in
        let o : s.off ≤ length (take s.live carry) = rw tl ok.offs in
        let front : drop s.off (take s.live carry ++ take j A) ≡ L ++ take j A = drop-append-le s.off (take s.live carry) (take j A) o in
        let ft : t ≤ length (L ++ take j A) = rw (length-append, left_length s carry chunk ok, length-take-le j A ja) (omega arith) in
        let carry' = paste carry s.live A j in
        let len : length carry' ≡ length carry = length-paste carry s.live A j (omega (arith, ok.caps, ok.lives)) ja in
        let o' : s.off ≤ length (take s.live carry ++ take j A) = rw (length-append, tl) (omega (arith, ok.offs)) in
        record {
          seen = view_good carry' chunk (record { side = Carry; start = s.off; len = t }) (rw len (omega (arith, ok.caps, ok.lives, ok.offs)))
              ∙ rw (drop-append-le s.off (take s.live carry ++ take j A) (drop (s.live + j) carry) o', front, front_take L A j t ft (drop (s.live + j) carry));
          rests = rw (take-paste carry s.live A j lv ja, ← drop-drop t s.off (take s.live carry ++ take j A), front, ← drop-drop j s.part chunk) (front_drop L A j t ft);
          sane = record { caps = len ∙ ok.caps; lives = omega (arith, ok.lives); offs = omega (arith, ok.offs); parts = omega (arith, ok.parts); chunks = ok.chunks };
          count = refl;
          setup = refl;
          opens = refl;
          chunks = refl;
        }

    took_shift : t ≤ s.cap → Took s carry chunk t (take_shift s carry chunk t)
    took_shift h =
        let L = left s carry in
        let A = ahead s chunk in
        let m : ℕ = t - left_len s in
        let ll : length L ≡ left_len s = left_length s carry chunk ok in
        let ma : m ≤ length A = rw (ahead_length s carry chunk ok) (omega arith) in
        let carry₁ = drain_carry s.off s.live carry in
        let carry' = paste carry₁ (left_len s) A m in
        let l₁ : length carry₁ ≡ length carry = drained_length s carry chunk ok in
        let fr : take (left_len s) carry₁ ≡ L = take_at L (drop (left_len s) carry) (left_len s) ll in
        let len : length carry' ≡ length carry = length-paste carry₁ (left_len s) A m (rw l₁ (omega (arith, ok.caps))) ma ∙ l₁ in
        let ft : t ≤ length (L ++ take m A) = rw (length-append, ll, length-take-le m A ma) (omega arith) in
        let gone : drop t (take t carry') ≡ [] = drop_of_length-le (take t carry') {i = t} (rw length-take (omega arith)) in
        let gone' : drop t L ≡ [] = drop_of_length-le L {i = t} (rw ll (omega arith)) in
        record {
          seen = view_good carry' chunk (record { side = Carry; start = 0; len = t }) (rw len (omega (arith, ok.caps)))
              ∙ rw (fr, front_take L A m t ft (drop (left_len s + m) carry₁));
          rests = rw (gone, drop_both t L A, gone', ll, drop-drop m s.part chunk);
          sane = record { caps = len ∙ ok.caps; lives = h; offs = omega arith; parts = omega (arith, ok.parts); chunks = ok.chunks };
          count = refl;
          setup = refl;
          opens = refl;
          chunks = refl;
        }

  pub took : (0 < left_len s → left_len s < t → t ≤ s.cap) → Took s carry chunk t (taking s carry chunk t)
  unfolding taking
  took room =
      by_pick (Took s carry chunk t) (λ e. took_chunk (eqb-true (left_len s) 0 e))
      (λ e. by_pick (Took s carry chunk t) (λ l. took_carry (leb-true t (left_len s) l))
      (λ l.
      let ne : left_len s ≢ 0 = eqb-false (left_len s) 0 e in
      let some : 0 < left_len s = omega arith in
      let more : left_len s < t = leb-false t (left_len s) l in
      by_pick (Took s carry chunk t) (λ g. took_grow some more (ltb-true (t - left_len s) (s.cap - s.live) g))
      (λ _. took_shift some more (room some more))))
