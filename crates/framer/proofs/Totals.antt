-- For a state reached from opening, every byte is accounted for: used + kept + lost = live at opening + chunk length.
use Rattle.std.specs.Prelude.{Result, Ok, Err, ⊤}
use Rattle.state.specs.declared.Refusal.{Refusal}
use mathlib.Core.Path.{◌≡◌, refl, sym, ap, ◌∙◌}
use mathlib.Core.Bool.{false, true≢false}
use mathlib.Core.List.{List}
use Prim.Native.Nat.{ℕ, suc, ◌+◌, ◌-◌, ◌≤◌, ◌<◌}
use native.Mathlib.Omega.{arith}
use lib.ListN.{length, length-drop}
use borrow.Author.Tests.{ltb-true}
use Rattle.window.proofs.Pick.{by_pick}
use Rattle.window.specs.Sync.{first_sync}
use Rattle.state.specs.declared.State.{State}
use Rattle.state.specs.Words.{window, width}
use Rattle.state.specs.Refusals.{may_open, may_use}
use Rattle.state.specs.Ready.{Sane}
use Rattle.state.proofs.Window.{window_length}
use Rattle.state.proofs.Granted.{use_granted, open_granted}
use Rattle.opening.specs.Operations.{noted, drain_to, open_on, opening, close_on, closing}
use Rattle.framer.specs.Step.{StepOut, step_from, step_on, step}
use Rattle.framer.specs.Reached.{is_denied, is_refused, Reached, by_opening, by_step}
use Rattle.framer.proofs.Account.{Keeps, step_keeps}
use Rattle.opening.proofs.Ready.{noted_ready}

-- ---- a call that is not refused was granted

module _ (s : State) (carry chunk : List ℕ) where
  pub opened_granted : (l : Result ⊤ Refusal) → is_denied (open_on s carry chunk l).leave ≡ false → l ≡ Ok tt
  opened_granted (Ok tt) e = refl
  opened_granted (Err r) e = absurd (true≢false e)

  pub stepped_granted : (l : Result ⊤ Refusal) → is_refused (step_on s carry chunk l).result.answer ≡ false → l ≡ Ok tt
  stepped_granted (Ok tt) e = refl
  stepped_granted (Err r) e = absurd (true≢false e)

  pub closed_granted : (l : Result ⊤ Refusal) → is_denied (close_on s carry chunk l).result.leave ≡ false → l ≡ Ok tt
  closed_granted (Ok tt) e = refl
  closed_granted (Err r) e = absurd (true≢false e)

-- ---- opening uses up what it drains, and a step what it drains and takes

drained_sum : (s : State) (i : ℕ) → s.off ≤ s.live → s.part ≤ s.chunk → (drain_to i (width s) s).used + width (drain_to i (width s) s) ≡ s.used + width s
drained_sum s i o p =
    by_pick (λ (t : State). t.used + width t ≡ s.used + width s)
    (λ t. let h : i < width s = ltb-true i (width s) t in omega arith)
    (λ _. refl)

pub kept_sum : (s : State) (carry chunk : List ℕ) (o : StepOut) → Sane s carry chunk → Keeps s carry chunk o
    → o.result.state.used + width o.result.state ≡ s.used + width s
kept_sum s carry chunk o ok k =
    let len : width o.result.state ≡ width s - k.gone =
    sym (window_length o.result.state o.carry chunk k.sane) ∙ ap length k.rests ∙ length-drop k.gone (window s carry chunk) ∙ ap (λ (n : ℕ). n - k.gone) (window_length s carry chunk ok) in
    rw (len, k.used_by) (omega (arith, k.within))

pub reached_sum : {chunk : List ℕ} {live : ℕ} {s : State} {carry : List ℕ} → Reached chunk live s carry → s.used + width s ≡ live + length chunk
unfolding opening step
reached_sum {chunk} (by_opening s carry e) =
    let gr = opened_granted s carry chunk (may_open s (length carry) (length chunk)) e in
    let n = noted_ready s carry chunk (open_granted s carry chunk gr) in
    let o = noted s (length chunk) in
    let sum = drained_sum o (first_sync s.mode (window o carry chunk)) n.1.sane.offs n.1.sane.parts in
    let off0 = n.0 in
    let all : 0 + width o ≡ s.live + length chunk = omega arith in
    rw gr (sum ∙ all)
reached_sum {chunk} (by_step s carry r e) =
    let gr = stepped_granted s carry chunk (may_use s (length carry) (length chunk)) e in
    let ok : Sane s carry chunk = (use_granted s carry chunk gr).ready.sane in
    rw gr (kept_sum s carry chunk (step_from s carry chunk) ok (step_keeps chunk (suc (width s)) s carry ok (omega arith)) ∙ reached_sum r)

pub close_sum : {chunk : List ℕ} {live : ℕ} {s : State} {carry : List ℕ} → Reached chunk live s carry → is_denied (closing s carry chunk).result.leave ≡ false
    → (closing s carry chunk).result.used + (closing s carry chunk).result.kept + (closing s carry chunk).result.lost ≡ live + length chunk
unfolding closing
close_sum {chunk} {live} {s} {carry} r e =
    let gr = closed_granted s carry chunk (may_use s (length carry) (length chunk)) e in
    rw gr (omega (arith, reached_sum r))
