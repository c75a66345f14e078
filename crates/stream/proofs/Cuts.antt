-- Calls that put chunks through a parser walk over the joined chunks, for any parser whose moves more bytes do not change.
use Rattle.std.specs.Prelude.{Result, Ok, Err, ⊤}
use Rattle.state.specs.declared.Refusal.{Refusal}
use mathlib.Core.Path.{◌≡◌, refl, sym, ap, ◌∙◌}
use mathlib.Core.Bool.{true, false, true≢false}
use mathlib.Core.List.{List, [], ◌++◌, append_assoc, append-nil}
use Prim.Native.Nat.{ℕ, zero, suc, ◌+◌}
use native.Mathlib.Nat.{add-zero}
use native.Mathlib.Omega.{arith}
use lib.ListN.{length}
use Rattle.claim.specs.declared.Verdict.TheVariants.{Wait, Tell, Hand}
use Rattle.claim.specs.Sizes.{skip, size}
use Rattle.look.specs.declared.Sight.{Sight, TheVariants.{Pass, Say}}
use Rattle.look.specs.Rules.{far}
use Rattle.state.specs.declared.State.{State}
use Rattle.state.specs.Words.{window, width, drain}
use Rattle.state.specs.Refusals.{may_open, may_use}
use Rattle.state.specs.Ready.{Sane}
use Rattle.state.proofs.Window.{Setup, setup_of}
use Rattle.state.proofs.Granted.{use_granted}
use Rattle.taking.specs.declared.Place.{Place}
use Rattle.taking.specs.Take.{taking}
use Rattle.opening.specs.Operations.{open_on, opening, close_on, closing}
use Rattle.framer.specs.Step.{StepOut, act, move_of, step_by, step_on, step}
use Rattle.framer.specs.Reached.{is_denied, is_refused}
use Rattle.framer.proofs.Account.{step_keeps}
use Rattle.framer.proofs.Totals.{opened_granted, stepped_granted, closed_granted}
use Rattle.stream.specs.Scan.{Event}
use Rattle.stream.specs.Calls.{Parser, Arg, own, other, given, regained, Call, starts, opens, steps, closes, views, after, heard, hears, loses, refused, after_all, hears_all, loses_all}
use Rattle.stream.specs.Runs.{Phase, between, within, through, Follows, done, opened, stepped, spent, closed, refusal, viewed, joined}
use Rattle.stream.specs.Demand.{holds}
use Rattle.stream.proofs.Cases.{frame_granted, tale_granted}
use Rattle.stream.proofs.Walks.{ends, Walk, here, join, extended}
use Rattle.stream.proofs.Steps.{Parses, Walked, step_walks, opening_walks, closing_keeps}

-- ---- a call that is refused changes nothing and says nothing

act_granted : (s : State) (carry chunk : List ℕ) (m : Sight) (again : ℕ → StepOut) → ((k : ℕ) → is_refused (again k).result.answer ≡ false)
    → is_refused (act s carry chunk m again).result.answer ≡ false
act_granted s carry chunk (Pass y) again h = h (far y)
act_granted s carry chunk (Say (Wait k)) again h = refl
act_granted s carry chunk (Say (Tell t)) again h = tale_granted t s.used
act_granted s carry chunk (Say (Hand kind)) again h = frame_granted kind s.used (taking (drain (skip kind) s) carry chunk (size kind)).result.place

-- a step that is granted answers no refusal
pub step_granted : (turns : ℕ) (s : State) (carry chunk : List ℕ) → is_refused (step_by turns s carry chunk).result.answer ≡ false
step_granted zero s carry chunk = refl
step_granted (suc f) s carry chunk = act_granted s carry chunk (move_of s carry chunk) (λ k. step_by f (drain k s) carry chunk) (λ k. step_granted f (drain k s) carry chunk)

module _ (s : State) (carry chunk : List ℕ) where
  open_held : (l : Result ⊤ Refusal) → is_denied (open_on s carry chunk l).leave ≡ true → (open_on s carry chunk l).state ≡ s
  open_held (Ok tt) e = absurd (true≢false (sym e))
  open_held (Err r) e = refl

  step_held : (l : Result ⊤ Refusal) → is_refused (step_on s carry chunk l).result.answer ≡ true
      → ((step_on s carry chunk l).result.state ≡ s) × ((step_on s carry chunk l).carry ≡ carry)
      × ((base : ℕ) (sight : Place → List ℕ) → heard base sight (step_on s carry chunk l).result.answer ≡ [])
  step_held (Ok tt) e = absurd (true≢false (sym e ∙ step_granted (suc (width s)) s carry chunk))
  step_held (Err r) e = (refl, refl, λ base sight. refl)

  close_held : (l : Result ⊤ Refusal) → is_denied (close_on s carry chunk l).result.leave ≡ true
      → ((close_on s carry chunk l).result.state ≡ s) × ((close_on s carry chunk l).carry ≡ carry)
      × ((close_on s carry chunk l).result.used ≡ 0) × ((close_on s carry chunk l).result.lost ≡ 0)
  close_held (Ok tt) e = absurd (true≢false (sym e))
  close_held (Err r) e = (refl, refl, refl, refl)

-- what a call leaves as it was given is as the parser had it
regains : {A : Type 0} (x : A) (g : Arg A) (y : A) → y ≡ given x g → regained x g y ≡ x
regains x own y e = e
regains x (other a) y e = refl

pub refused_still : (k : Call) (p : Parser) → refused k p ≡ true → (after k p ≡ p) × (hears k p ≡ []) × (loses k p ≡ 0)
unfolding refused after hears loses opening step closing
refused_still (starts m mode max) p e = (refl, refl, refl)
refused_still (opens s m c) p e =
    let x = given p.state s in
    let y = given p.carry m in
    (rw (regains p.state s _ (open_held x y c (may_open x (length y) (length c)) e)), refl, refl)
refused_still (steps s m c) p e =
    let x = given p.state s in
    let y = given p.carry m in
    let h = step_held x y c (may_use x (length y) (length c)) e in
    (rw (regains p.state s _ h.0, regains p.carry m _ h.1), h.2 _ _, refl)
refused_still (closes s m c) p e =
    let x = given p.state s in
    let y = given p.carry m in
    let h = close_held x y c (may_use x (length y) (length c)) e in
    (rw (regains p.state s _ h.0, regains p.carry m _ h.1, h.2, add-zero), refl, h.3)
refused_still (views m c place) p e = (refl, refl, refl)

-- ---- the calls of a whole run

-- where a phase stands in the stream, and the bytes that it has in hand
abbrev pos : Phase → Parser → ℕ
pos between p = p.base
pos (within c) p = p.base + p.state.used
pos (through c) p = p.base + p.state.used

abbrev front : Phase → Parser → List ℕ
front between p = holds p
front (within c) p = window p.state p.carry c
front (through c) p = window p.state p.carry c

module _ (u : Setup) (move : List ℕ → Sight) (parses : Parses u move) where
  abbrev pub Inv : Phase → Parser → Type 0
  Inv between p = (setup_of p.state ≡ u) × (ends (move (holds p)) ≡ true)
  Inv (within c) p = setup_of p.state ≡ u
  Inv (through c) p = (setup_of p.state ≡ u) × (ends (move (window p.state p.carry c)) ≡ true)

  abbrev pub Ran : Phase → Parser → List Call → List (List ℕ) → Type 0
  Ran ph p ks cs =
      Walk move (pos ph p) (front ph p ++ joined cs) (hears_all ks p) (after_all ks p).base (holds (after_all ks p))
      × (ends (move (holds (after_all ks p))) ≡ true) × (loses_all ks p ≡ 0)

  from : {p r q : ℕ} {W Y X : List ℕ} {es : List Event} → p ≡ r → W ≡ Y → Walk move p W es q X → Walk move r Y es q X
  from e h g = rw (e, h) at g

  stepping : (p : Parser) (c : List ℕ) → setup_of p.state ≡ u → refused (steps own own c) p ≡ false
      → Walked u move parses p.base c p.state p.carry (step p.state p.carry c) × (setup_of (step p.state p.carry c).result.state ≡ u)
  unfolding refused step
  stepping p c su e =
      let s = p.state in
      let gr = stepped_granted s p.carry c (may_use s (length p.carry) (length c)) e in
      let ok : Sane s p.carry c = (use_granted s p.carry c gr).ready.sane in
      rw gr (
        step_walks u move parses p.base c (suc (width s)) s p.carry su ok (omega arith),
        (step_keeps c (suc (width s)) s p.carry ok (omega arith)).setup ∙ su,
      )

  pub ran : {ph : Phase} {p : Parser} {ks : List Call} {cs : List (List ℕ)} → Follows ph p ks cs → Inv ph p → Ran ph p ks cs
  unfolding after hears loses refused
  ran done i = (rw append-nil here, i.1, refl)
  ran (opened {p} {c} {ks} {cs} e f) i =
      let s = p.state in
      let gr : may_open s (length p.carry) (length c) ≡ Ok tt = unfold opening in opened_granted s p.carry c (may_open s (length p.carry) (length c)) e in
      let a = opening_walks u move parses p.base c s p.carry i.0 gr in
      let r = ran f a.0 in
      (from refl (append_assoc (holds p) c (joined cs)) (join move (extended move parses.steady (joined cs) a.1) r.0), r.1, omega (arith, r.2))
  ran (stepped {p} {c} {ks} {cs} e n f) i =
      let k = stepping p c i e in
      let r = ran f k.1 in
      (join move (extended move parses.steady (joined cs) k.0.walk) r.0, r.1, omega (arith, r.2))
  ran (spent {p} {c} {ks} {cs} e n f) i =
      let k = stepping p c i e in
      let r = ran f (k.1, k.0.rests n) in
      (join move (extended move parses.steady (joined cs) k.0.walk) r.0, r.1, omega (arith, r.2))
  ran (closed {p} {c} {ks} {cs} e f) i =
      let s = p.state in
      let gr : may_use s (length p.carry) (length c) ≡ Ok tt = unfold closing in closed_granted s p.carry c (may_use s (length p.carry) (length c)) e in
      let k = closing_keeps u move parses p.base c s p.carry i.0 gr i.1 in
      let r = ran f (k.0, rw k.1 i.1) in
      (from (ap (λ (n : ℕ). p.base + n) k.2) (ap (λ (l : List ℕ). l ++ joined cs) k.1) r.0, r.1, omega (arith, r.2, k.3))
  ran (refusal {ph} {p} {k} {ks} {cs} e f) i =
      let h = refused_still k p e in
      let r : Ran ph (after k p) ks cs = ran f (rw h.0 i) in
      (rw h.1 (from (ap (pos ph) h.0) (ap (λ (q : Parser). front ph q ++ joined cs) h.0) r.0), r.1, omega (arith, r.2, h.2))
  ran (viewed f) i = let r = ran f i in (r.0, r.1, omega (arith, r.2))
