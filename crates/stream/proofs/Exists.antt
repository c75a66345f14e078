-- Calls that put chunks of at most 16,384 bytes through a parser exist, in every mode and for every carry: no call that follows
-- the rule is refused, and need more is said after finitely many steps.
use mathlib.Core.Path.{◌≡◌, refl, ap, ◌∙◌}
use mathlib.Core.Bool.{Bool, true, false}
use mathlib.Core.List.{List, [], ◌∷◌}
use Prim.Native.Nat.{ℕ, zero, suc, ◌≤◌, ◌<◌}
use native.Mathlib.Omega.{arith}
use lib.ListN.{length}
use borrow.Author.Tests.{ltb-true, le-ltb}
use Rattle.window.specs.Pick.{pick}
use Rattle.window.specs.Sync.{first_sync}
use Rattle.window.proofs.Pick.{by_pick}
use Rattle.state.specs.declared.State.{State}
use Rattle.state.specs.Words.{window, width, idle}
use Rattle.state.proofs.Window.{Setup}
use Rattle.state.proofs.Granted.{Usable, grant_use, Openable, grant_open, drain_ready}
use Rattle.opening.specs.Operations.{start, noted, drain_to, opening, closing}
use Rattle.framer.specs.Step.{step_from, step}
use Rattle.framer.specs.Reached.{is_denied, is_refused, is_need_more}
use Rattle.opening.proofs.Closing.{closed_length}
use Rattle.framer.proofs.Account.{Keeps, step_keeps}
use Rattle.opening.proofs.Ready.{noted_ready}
use Rattle.framer.proofs.Totals.{kept_sum}
use Rattle.stream.specs.Calls.{Parser, own, Call, opens, steps, closes, after, refused}
use Rattle.stream.specs.Runs.{Phase, between, within, needs_more, Follows, done, opened, stepped, spent, closed}
use Rattle.stream.specs.Demand.{fresh, Short, EveryCuttingHasARun}
use Rattle.stream.proofs.Cuts.{step_granted}

-- any chunk that is not too long can be opened
abbrev pub Idle : State → List ℕ → Type 0
Idle s carry = (chunk : List ℕ) → length chunk ≤ 16384 → Openable s carry chunk

start_idle : (s : State) (carry : List ℕ) (live : ℕ) → s ≡ idle s.mode s.max s.cap live → length carry ≡ s.cap → s.cap ≤ 16384 → live ≤ s.cap → Idle s carry
unfolding pick
start_idle s carry live e c h l chunk short =
    rw e (record {
      sound = record { caps = c; small = h; lives = l; offs = omega arith; parts = omega arith; short = omega arith; counts = omega arith; idles = refl };
      closed = refl;
      fits = short;
    })

pub open_usable : (s : State) (carry chunk : List ℕ) → Openable s carry chunk
    → (is_denied (opening s carry chunk).leave ≡ false) × Usable (opening s carry chunk).state carry chunk
unfolding opening
open_usable s carry chunk h =
    let r = (noted_ready s carry chunk h).1 in
    let o = noted s (length chunk) in
    let i = first_sync s.mode (window o carry chunk) in
    let go : Usable (drain_to i (width o) o) carry chunk =
    by_pick (λ (t : State). Usable t carry chunk)
    (λ t. let l : i < width o = ltb-true i (width o) t in record { ready = drain_ready o carry chunk r i (omega arith); opened = refl })
    (λ _. record { ready = r; opened = refl }) in
    rw (grant_open s carry chunk h) (refl, go)

-- a step leaves a state that can be used again, and where it answers, a smaller window
pub step_usable : (s : State) (carry chunk : List ℕ) → Usable s carry chunk
    → (is_refused (step s carry chunk).result.answer ≡ false) × Usable (step s carry chunk).result.state (step s carry chunk).carry chunk
    × (is_need_more (step s carry chunk).result.answer ≡ false → width (step s carry chunk).result.state < width s)
unfolding step
step_usable s carry chunk h =
    let r = h.ready in
    let o = step_from s carry chunk in
    let k : Keeps s carry chunk o = step_keeps chunk (suc (width s)) s carry r.sane (omega arith) in
    let sum = kept_sum s carry chunk o r.sane k in
    let cap : o.result.state.cap ≡ s.cap = ap (λ (x : Setup). x.cap) k.setup in
    rw (grant_use s carry chunk h) (
      step_granted (suc (width s)) s carry chunk,
      record {
        ready = record { sane = k.sane; small = rw cap r.small; short = rw k.chunks r.short; counts = rw sum r.counts };
        opened = k.opens ∙ h.opened;
      },
      λ e. omega (arith, sum, k.used_by, k.some e),
    )

pub close_idle : (s : State) (carry chunk : List ℕ) → Usable s carry chunk
    → (is_denied (closing s carry chunk).result.leave ≡ false) × Idle (closing s carry chunk).result.state (closing s carry chunk).carry
unfolding closing
close_idle s carry chunk h =
    let r = h.ready in
    rw (grant_use s carry chunk h) (refl, start_idle _ _ _ refl (closed_length s carry chunk r.sane ∙ r.sane.caps) r.small (omega arith))

-- ---- the calls for a list of chunks

abbrev Driven : Phase → Parser → List (List ℕ) → Type 0
Driven ph p cs = (ks : List Call) × Follows ph p ks cs

drive_within : (cs : List (List ℕ)) → ((p : Parser) → Idle p.state p.carry → Driven between p cs)
    → (n : ℕ) (p : Parser) (c : List ℕ) → Usable p.state p.carry c → width p.state < n → Driven (within c) p cs
unfolding after refused
drive_within cs next zero p c h l = absurd (omega arith)
drive_within cs next (suc n) p c h l = go (needs_more c p) refl (λ r s. drive_within cs next n p₁ c r s)
  where
    p₁ : Parser
    p₁ = after (steps own own c) p

    go : (b : Bool) → needs_more c p ≡ b → (Usable p₁.state p₁.carry c → width p₁.state < n → Driven (within c) p₁ cs) → Driven (within c) p cs
    go false e on =
        let k = step_usable p.state p.carry c h in
        let r = on k.1 (omega (arith, k.2 e)) in
        (steps own own c ∷ r.0, stepped k.0 e r.1)
    go true e on =
        let k = step_usable p.state p.carry c h in
        let z = close_idle p₁.state p₁.carry c k.1 in
        let r = next (after (closes own own c) p₁) z.1 in
        (steps own own c ∷ closes own own c ∷ r.0, spent k.0 e (closed z.0 r.1))

drive : (cs : List (List ℕ)) → Short cs → (p : Parser) → Idle p.state p.carry → Driven between p cs
unfolding after refused
drive [] h p i = ([], done)
drive (c ∷ cs) h p i =
    let z = open_usable p.state p.carry c (i c h.0) in
    let p₁ = after (opens own own c) p in
    let r = drive_within cs (drive cs h.1) (suc (width p₁.state)) p₁ c z.1 (omega arith) in
    (opens own own c ∷ r.0, opened z.0 r.1)

pub every_cutting_has_a_run : EveryCuttingHasARun
unfolding start pick
every_cutting_has_a_run mode max carry h chunks short =
    drive chunks short (fresh mode max carry) (rw (le-ltb 16384 (length carry) h) (start_idle (idle mode max (length carry) 0) carry 0 refl refl h (omega arith)))
