-- A call that is not refused: what its state then is, and that such a state is never refused.
use Rattle.std.specs.Prelude.{Result, Ok, ⊤}
use Rattle.state.specs.declared.Refusal.{Refusal}
use mathlib.Core.Path.{◌≡◌, refl, ap}
use mathlib.Core.Bool.{Bool, true, false, not, true≢false}
use mathlib.Core.List.{List, [], ◌∷◌}
use Prim.Native.Nat.{ℕ, ◌+◌, ◌≤◌}
use native.Mathlib.Omega.{arith}
use lib.ListN.{length}
use lib.Dec.{ltb}
use borrow.Author.Tests.{eqb-true, ltb-false, le-ltb, eq-eqb, not-false}
use Rattle.window.specs.Pick.{pick}
use Rattle.window.proofs.Pick.{by_pick, pick_false}
use Rattle.state.specs.declared.State.{State}
use Rattle.state.specs.Words.{width, drain}
use Rattle.state.specs.Refusals.{any_of, idle_bad, faults, is_bad, may_open, may_use}
use Rattle.state.specs.Ready.{Ready}

-- ---- a list of tests: `any_of` computes to nested picks

pub any_next : (b x : Bool) → b ≡ false → pick b true x ≡ x
unfolding pick
any_next b x e = rw e

abbrev pub AllFalse : List Bool → Type 0
AllFalse [] = Unit {0}
AllFalse (b ∷ bs) = (b ≡ false) × AllFalse bs

pub none_of : (bs : List Bool) → any_of bs ≡ false → AllFalse bs
none_of [] e = tt
none_of (b ∷ bs) e =
    let go : any_of (b ∷ bs) ≡ false → AllFalse (b ∷ bs) = by_pick (λ r. r ≡ false → AllFalse (b ∷ bs)) (λ _ x. absurd (true≢false x)) (λ h x. (h, none_of bs x)) in
    go e

any_none : (bs : List Bool) → AllFalse bs → any_of bs ≡ false
any_none [] h = refl
any_none (b ∷ bs) h = rw (h.0, any_none bs h.1, pick_false)

-- ---- a state that is not bad

pub record Sound (s : State) (carryLen : ℕ) : Type 0 where
  pub caps : carryLen ≡ s.cap
  pub small : s.cap ≤ 16384
  pub lives : s.live ≤ s.cap
  pub offs : s.off ≤ s.live
  pub parts : s.part ≤ s.chunk
  pub short : s.chunk ≤ 16384
  pub counts : s.used + width s ≤ 32768
  pub idles : idle_bad s ≡ false

module _ (s : State) (n : ℕ) where
  pub sound_of : is_bad s n ≡ false → Sound s n
  unfolding is_bad
  sound_of e =
      let a = none_of (faults s n) e in
      record {
        caps = eqb-true n s.cap (not-false _ a.0);
        small = ltb-false 16384 s.cap a.1.0;
        lives = ltb-false s.cap s.live a.1.1.0;
        offs = ltb-false s.live s.off a.1.1.1.0;
        parts = ltb-false s.chunk s.part a.1.1.1.1.0;
        short = ltb-false 16384 s.chunk a.1.1.1.1.1.0;
        counts = ltb-false 32768 (s.used + width s) a.1.1.1.1.1.1.0;
        idles = a.1.1.1.1.1.1.1.0;
      }

  pub not_bad : Sound s n → is_bad s n ≡ false
  unfolding is_bad
  not_bad h = any_none (faults s n) (
    ap not (eq-eqb n s.cap h.caps),
    (le-ltb _ _ h.small, (le-ltb _ _ h.lives, (le-ltb _ _ h.offs, (le-ltb _ _ h.parts, (le-ltb _ _ h.short, (le-ltb _ _ h.counts, (h.idles, tt))))))),
  )

-- an idle state that is not bad has off, used and chunk length 0
pub idle_zeros : (s : State) → s.«open» ≡ false → idle_bad s ≡ false → (s.off ≡ 0) × (s.used ≡ 0) × (s.chunk ≡ 0)
idle_zeros s o e =
    let f : any_of (ltb 0 s.off ∷ ltb 0 s.used ∷ ltb 0 s.chunk ∷ []) ≡ false = rw o at e in
    let h = none_of (ltb 0 s.off ∷ ltb 0 s.used ∷ ltb 0 s.chunk ∷ []) f in
    (omega (arith, ltb-false 0 s.off h.0), omega (arith, ltb-false 0 s.used h.1.0), omega (arith, ltb-false 0 s.chunk h.1.1.0))

-- by the lengths alone: a sound state is granted
module _ (s : State) (n m : ℕ) (h : Sound s n) where
  pub granted_use : s.«open» ≡ true → m ≡ s.chunk → may_use s n m ≡ Ok tt
  unfolding may_use
  granted_use o e = rw (not_bad s n h, pick_false, o, pick_false, eq-eqb m s.chunk e, pick_false)

  pub granted_open : s.«open» ≡ false → m ≤ 16384 → may_open s n m ≡ Ok tt
  unfolding may_open
  granted_open o f = rw (not_bad s n h, pick_false, o, pick_false, le-ltb _ _ f, pick_false)

-- ---- a granted call, and its state

module _ (s : State) (carry chunk : List ℕ) where
  -- stepping and closing
  pub record Usable : Type 0 where
    pub ready : Ready s carry chunk
    pub opened : s.«open» ≡ true

  pub use_granted : may_use s (length carry) (length chunk) ≡ Ok tt → Usable
  unfolding may_use
  use_granted =
      let P : Result ⊤ Refusal → Type 0 = λ l. l ≡ Ok tt → Usable in
      by_pick P (λ _ e. let z : ◌≡◌ {A = ℕ} 0 1 = cc in absurd (omega arith))
      (λ bad. let h = sound_of s (length carry) bad in
      by_pick P (λ _ e. let z : ◌≡◌ {A = ℕ} 0 1 = cc in absurd (omega arith))
      (λ o. by_pick P (λ _ e. let z : ◌≡◌ {A = ℕ} 0 1 = cc in absurd (omega arith))
      (λ n _. record {
        ready = record {
          sane = record { caps = h.caps; lives = h.lives; offs = h.offs; parts = h.parts; chunks = eqb-true (length chunk) s.chunk (not-false _ n) };
          small = h.small;
          short = h.short;
          counts = h.counts;
        };
        opened = not-false _ o;
      })))

  pub grant_use : Usable → may_use s (length carry) (length chunk) ≡ Ok tt
  grant_use u =
      let r = u.ready in
      let k = r.sane in
      let sound : Sound s (length carry) = record {
        caps = k.caps;
        small = r.small;
        lives = k.lives;
        offs = k.offs;
        parts = k.parts;
        short = r.short;
        counts = r.counts;
        idles = rw u.opened;
      } in
      granted_use s (length carry) (length chunk) sound u.opened k.chunks

  -- opening
  pub record Openable : Type 0 where
    pub sound : Sound s (length carry)
    pub closed : s.«open» ≡ false
    pub fits : length chunk ≤ 16384

  pub open_granted : may_open s (length carry) (length chunk) ≡ Ok tt → Openable
  unfolding may_open
  open_granted =
      let P : Result ⊤ Refusal → Type 0 = λ l. l ≡ Ok tt → Openable in
      by_pick P (λ _ e. let z : ◌≡◌ {A = ℕ} 0 1 = cc in absurd (omega arith))
      (λ bad. by_pick P (λ _ e. let z : ◌≡◌ {A = ℕ} 0 1 = cc in absurd (omega arith))
      (λ o. by_pick P (λ _ e. let z : ◌≡◌ {A = ℕ} 0 1 = cc in absurd (omega arith))
      (λ n _. record { sound = sound_of s (length carry) bad; closed = o; fits = ltb-false 16384 (length chunk) n })))

  pub grant_open : Openable → may_open s (length carry) (length chunk) ≡ Ok tt
  grant_open h = granted_open s (length carry) (length chunk) h.sound h.closed h.fits

  -- ---- draining

  pub drain_ready : Ready s carry chunk → (k : ℕ) → k ≤ width s → Ready (drain k s) carry chunk
  drain_ready r k h =
      let o = r.sane.offs in
      let p = r.sane.parts in
      let c = r.counts in
      record {
        sane = record { caps = r.sane.caps; lives = r.sane.lives; offs = omega arith; parts = omega arith; chunks = r.sane.chunks };
        small = r.small;
        short = r.short;
        counts = omega arith;
      }
