-- Openings, steps and closes of a parser as parts of a walk, for any parser whose moves more bytes do not change.
use Rattle.std.specs.Prelude.{Ok}
use mathlib.Core.Path.{◌≡◌, refl, sym, ap, ◌∙◌}
use mathlib.Core.Bool.{true, false, true≢false}
use mathlib.Core.List.{List, [], ◌∷◌, ◌++◌, append-nil}
use Prim.Native.Nat.{ℕ, zero, suc, ◌+◌, ◌-◌, ◌≤◌, ◌<◌}
use native.Mathlib.Nat.{add-zero, zero-add}
use native.Mathlib.Omega.{arith}
use lib.ListN.{length, take, drop}
use lib.Seq.{drop-drop, take_all}
use Rattle.window.specs.Sync.{is_sync, first, first_sync}
use Rattle.window.proofs.Pick.{by_pick}
use Rattle.claim.specs.declared.Verdict.TheVariants.{Wait, Tell, Hand}
use Rattle.claim.specs.Sizes.{skip, size}
use Rattle.claim.specs.Verdicts.{cost}
use Rattle.look.specs.declared.Why.TheVariants.{NoSync}
use Rattle.look.specs.declared.Sight.{Sight, TheVariants.{Pass, Say}}
use Rattle.look.specs.Rules.{far}
use Rattle.look.specs.Within.{whole, Moves}
use Rattle.state.specs.declared.State.{State}
use Rattle.state.specs.Words.{left_len, window, width, drain}
use Rattle.state.specs.Refusals.{may_open, may_use}
use Rattle.state.specs.Ready.{Sane}
use Rattle.state.proofs.Window.{Setup, setup_of, window_length, window_drain, drain_sane}
use Rattle.state.proofs.Granted.{use_granted, open_granted}
use Rattle.taking.specs.View.{view}
use Rattle.taking.specs.Take.{taking}
use Rattle.taking.proofs.Took.{Took, took}
use Rattle.opening.specs.Operations.{noted, drain_to, opening, closing}
use Rattle.framer.specs.Step.{StepOut, act, move_of, step_by}
use Rattle.framer.specs.Reached.{is_need_more}
use Rattle.opening.proofs.Closing.{closed_keeps}
use Rattle.framer.proofs.Account.{moves_in}
use Rattle.opening.proofs.Ready.{noted_ready}
use Rattle.stream.specs.Scan.{body}
use Rattle.stream.specs.Calls.{heard}
use Rattle.stream.proofs.Cases.{frame_heard, tale_heard}
use Rattle.stream.proofs.Walks.{ends, gone, says, Steady, Walk, here, join, turn_by}

-- each state with this setup makes these moves; where one ends the scan, it drains nothing and the window fits the carry
pub record Parses (u : Setup) (move : List ℕ → Sight) : Type 0 where
  pub steady : Steady move
  pub same : (s : State) (carry chunk : List ℕ) → setup_of s ≡ u → move_of s carry chunk ≡ move (window s carry chunk)
  pub noise : (b : ℕ) (bs : List ℕ) → is_sync u.mode b ≡ false → move (b ∷ bs) ≡ Pass NoSync
  pub still : (W : List ℕ) → ends (move W) ≡ true → (move W ≡ Say (Wait 0)) × (length W ≤ u.cap)

module _ (u : Setup) (move : List ℕ → Sight) (parses : Parses u move) (base : ℕ) (chunk : List ℕ) where
  -- ---- a step, seen from the stream: base is what earlier closes reported as used

  pub record Walked (s : State) (carry : List ℕ) (o : StepOut) : Type 0 where
    pub walk : Walk move (base + s.used) (window s carry chunk) (heard base (view o.carry chunk) o.result.answer) (base + o.result.state.used) (window o.result.state o.carry chunk)
    pub rests : is_need_more o.result.answer ≡ true → ends (move (window o.result.state o.carry chunk)) ≡ true

  module _ (s : State) (carry : List ℕ) (ok : Sane s carry chunk) where
    -- one turn, which leaves X at position p
    one : (m : Sight) → move (window s carry chunk) ≡ m → ends m ≡ false → (X : List ℕ) → drop (gone m) (window s carry chunk) ≡ X → (p : ℕ) → base + s.used + gone m ≡ p
        → Walk move (base + s.used) (window s carry chunk) (says (base + s.used) (window s carry chunk) m) p X
    one m e n X d p h =
        let W = window s carry chunk in
        let g : Walk move (base + s.used) W (says (base + s.used) W m ++ []) (base + s.used + gone m) X = turn_by move W X m e n d here in
        rw (append-nil, h) at g

    act_walks : (m : Sight) → move (window s carry chunk) ≡ m → Moves s.cap (left_len s) (width s) m → (again : ℕ → StepOut)
        → ((k : ℕ) → 0 < k → k ≤ width s → Walked (drain k s) carry (again k)) → Walked s carry (act s carry chunk m again)
    act_walks (Pass y) e h again ih =
        let i = ih (far y) h.0 h.1 in
        record {
          walk = join move (one (Pass y) e refl (window (drain (far y) s) carry chunk) (sym (window_drain s carry chunk ok (far y))) (base + (s.used + far y)) (omega arith)) i.walk;
          rests = i.rests;
        }
    act_walks (Say (Wait k)) e h again ih =
        let W = window s carry chunk in
        let z : k ≡ 0 = let r : move W ≡ Say (Wait 0) = (parses.still W (rw e)).0 in cc in
        let w : window (drain k s) carry chunk ≡ W = rw (window_drain s carry chunk ok k, z) in
        record { walk = rw (w, z, add-zero) here; rests = λ _. rw (w, e) }
    act_walks (Say (Tell t)) e h again ih =
        let a = tale_heard base s.used (view carry chunk) t in
        record {
          walk = rw a.0 (one (Say (Tell t)) e refl (window (drain (cost t) s) carry chunk) (sym (window_drain s carry chunk ok (cost t))) (base + (s.used + cost t)) (omega arith));
          rests = λ n. absurd (true≢false (sym n ∙ a.1));
        }
    act_walks (Say (Hand kind)) e h again ih =
        let W = window s carry chunk in
        let s₁ = drain (skip kind) s in
        let r = taking s₁ carry chunk (size kind) in
        let fits : size kind ≤ width s₁ = omega (arith, h.1) in
        let l : left_len s₁ ≡ left_len s - skip kind = omega (arith, ok.offs) in
        let t : Took s₁ carry chunk (size kind) r =
        took s₁ carry chunk (drain_sane s carry chunk ok (skip kind) (omega (arith, h.1))) (size kind) fits (rw l h.2) in
        let w : window s₁ carry chunk ≡ drop (skip kind) W = window_drain s carry chunk ok (skip kind) in
        let rs : drop (whole kind) W ≡ window r.result.state r.carry chunk = sym (t.rests ∙ rw (w, drop-drop (size kind) (skip kind) W)) in
        let see : view r.carry chunk r.result.place ≡ body kind W = t.seen ∙ rw w in
        let a = frame_heard base s.used (view r.carry chunk) kind r.result.place in
        record {
          walk = rw (a.0, see) (one (Say (Hand kind)) e refl (window r.result.state r.carry chunk) rs (base + r.result.state.used) (omega (arith, t.count)));
          rests = λ n. absurd (true≢false (sym n ∙ a.1));
        }

  pub step_walks : (turns : ℕ) (s : State) (carry : List ℕ) → setup_of s ≡ u → Sane s carry chunk → width s < turns → Walked s carry (step_by turns s carry chunk)
  step_walks zero s carry su ok h = absurd (omega arith)
  step_walks (suc f) s carry su ok h =
      act_walks s carry ok (move_of s carry chunk) (sym (parses.same s carry chunk su)) (moves_in chunk s carry ok) (λ k. step_by f (drain k s) carry chunk)
      (λ k p l. step_walks f (drain k s) carry su (drain_sane s carry chunk ok k l) (omega arith))

  -- ---- an opening passes bytes that are no sync byte

  noise_walk : (W : List ℕ) (p : ℕ) → Walk move p W [] (p + first_sync u.mode W) (drop (first_sync u.mode W) W)
  unfolding first
  noise_walk [] p = rw add-zero here
  noise_walk (b ∷ bs) p =
      by_pick (λ n. Walk move p (b ∷ bs) [] (p + n) (drop n (b ∷ bs)))
      (λ _. rw add-zero here)
      (λ t.
      let at : p + 1 + first_sync u.mode bs ≡ p + suc (first_sync u.mode bs) = omega arith in
      turn_by move (b ∷ bs) bs (Pass NoSync) (parses.noise b bs t) refl refl (rw at at (noise_walk bs (p + 1))))

  module _ (s : State) (carry : List ℕ) (su : setup_of s ≡ u) where
    pub opening_walks : may_open s (length carry) (length chunk) ≡ Ok tt
        → (setup_of (opening s carry chunk).state ≡ u)
        × Walk move base (take s.live carry ++ chunk) [] (base + (opening s carry chunk).state.used) (window (opening s carry chunk).state carry chunk)
    unfolding opening
    opening_walks gr =
        let n = noted_ready s carry chunk (open_granted s carry chunk gr) in
        let o = noted s (length chunk) in
        let W = window o carry chunk in
        let w : W ≡ take s.live carry ++ chunk = rw n.0 in
        let i = first_sync s.mode W in
        let mode : s.mode ≡ u.mode = ap (λ (x : Setup). x.mode) su in
        let past : Walk move base W [] (base + i) (drop i W) = rw mode (noise_walk W base) in
        let go : (setup_of (drain_to i (width o) o) ≡ u) × Walk move base W [] (base + (drain_to i (width o) o).used) (window (drain_to i (width o) o) carry chunk) =
        by_pick (λ (t : State). (setup_of t ≡ u) × Walk move base W [] (base + t.used) (window t carry chunk))
        (λ _. (su, rw (window_drain o carry chunk n.1.sane i, zero-add) past))
        (λ _. (su, rw add-zero here)) in
        rw (gr, ← w) go

    -- a close keeps the window, where it is one that needs more
    pub closing_keeps : may_use s (length carry) (length chunk) ≡ Ok tt → ends (move (window s carry chunk)) ≡ true
        → (setup_of (closing s carry chunk).result.state ≡ u)
        × (take (closing s carry chunk).result.state.live (closing s carry chunk).carry ≡ window s carry chunk)
        × ((closing s carry chunk).result.used ≡ s.used) × ((closing s carry chunk).result.lost ≡ 0)
    unfolding closing
    closing_keeps gr e =
        let ok : Sane s carry chunk = (use_granted s carry chunk gr).ready.sane in
        let cap : u.cap ≡ s.cap = ap (λ (x : Setup). x.cap) (sym su) in
        let short : length (window s carry chunk) ≤ s.cap = rw (← cap) (parses.still (window s carry chunk) e).1 in
        let none : width s - s.cap ≡ 0 = let h : width s ≤ s.cap = rw (window_length s carry chunk ok) at short in omega arith in
        rw gr (su, closed_keeps s carry chunk ok ∙ take_all s.cap (window s carry chunk) short, refl, none)
