-- What every step keeps, in every mode and for every carry: the state stays good, and each byte of the window is used or left.
use mathlib.Core.Path.{◌≡◌, refl, ◌∙◌}
use mathlib.Core.Bool.{false, true≢false}
use mathlib.Core.List.{List}
use Prim.Native.Nat.{ℕ, zero, suc, ◌+◌, ◌-◌, ◌≤◌, ◌<◌}
use native.Mathlib.Omega.{arith}
use lib.ListN.{drop}
use lib.Seq.{drop-drop}
use Rattle.claim.specs.declared.Verdict.{Verdict, TheVariants.{Wait, Tell, Hand}}
use Rattle.claim.specs.Sizes.{skip, size}
use Rattle.claim.specs.Verdicts.{cost}
use Rattle.look.specs.declared.Sight.{Sight, TheVariants.{Pass, Say}}
use Rattle.look.specs.Rules.{far}
use Rattle.look.specs.Within.{whole, Says, Moves}
use Rattle.look.proofs.Within.{move_in}
use Rattle.state.specs.declared.State.{State}
use Rattle.state.specs.Words.{left_len, window, width, drain}
use Rattle.state.specs.Ready.{Sane}
use Rattle.state.proofs.Window.{setup_of, window_length, window_drain, drain_sane}
use Rattle.taking.specs.Take.{taking}
use Rattle.taking.proofs.Took.{Took, took}
use Rattle.framer.specs.Step.{StepOut, say, act, move_of, step_by}
use Rattle.framer.specs.Reached.{is_need_more}

pub record Keeps (s : State) (carry chunk : List ℕ) (o : StepOut) : Type 0 where
  -- the bytes drained or taken
  pub gone : ℕ
  pub within : gone ≤ width s
  pub rests : window o.result.state o.carry chunk ≡ drop gone (window s carry chunk)
  pub used_by : o.result.state.used ≡ s.used + gone
  pub some : is_need_more o.result.answer ≡ false → 0 < gone
  pub sane : Sane o.result.state o.carry chunk
  pub setup : setup_of o.result.state ≡ setup_of s
  pub opens : o.result.state.«open» ≡ s.«open»
  pub chunks : o.result.state.chunk ≡ s.chunk

module _ (chunk : List ℕ) where
  pub moves_in : (s : State) (carry : List ℕ) → Sane s carry chunk → Moves s.cap (left_len s) (width s) (move_of s carry chunk)
  moves_in s carry ok = rw (window_length s carry chunk ok) at (move_in s.mode s.max s.cap (left_len s) (window s carry chunk))

  module _ (s : State) (carry : List ℕ) (ok : Sane s carry chunk) where
    keeps_drain : (k : ℕ) → k ≤ width s → (o : StepOut) → o.result.state ≡ drain k s → o.carry ≡ carry → (is_need_more o.result.answer ≡ false → 0 < k) → Keeps s carry chunk o
    keeps_drain k h o e c p = record {
      gone = k;
      within = h;
      rests = rw (e, c) (window_drain s carry chunk ok k);
      used_by = rw e;
      some = p;
      sane = rw (e, c) (drain_sane s carry chunk ok k h);
      setup = rw e;
      opens = rw e;
      chunks = rw e;
    }

    say_keeps : (v : Verdict) → Says s.cap (left_len s) (width s) v → Keeps s carry chunk (say s carry chunk v)
    say_keeps (Wait k) h = keeps_drain k h (say s carry chunk (Wait k)) refl refl (λ e. absurd (true≢false e))
    say_keeps (Tell t) h = keeps_drain (cost t) h.1 (say s carry chunk (Tell t)) refl refl (λ _. h.0)
    say_keeps (Hand kind) h =
        let s₁ = drain (skip kind) s in
        let w : window s₁ carry chunk ≡ drop (skip kind) (window s carry chunk) = window_drain s carry chunk ok (skip kind) in
        let fits : size kind ≤ width s₁ = omega (arith, h.1) in
        let l : left_len s₁ ≡ left_len s - skip kind = omega (arith, ok.offs) in
        let t : Took s₁ carry chunk (size kind) (taking s₁ carry chunk (size kind)) =
        took s₁ carry chunk (drain_sane s carry chunk ok (skip kind) (omega (arith, h.1))) (size kind) fits (rw l h.2) in
        record {
          gone = whole kind;
          within = h.1;
          rests = t.rests ∙ rw (w, drop-drop (size kind) (skip kind) (window s carry chunk));
          used_by = omega (arith, t.count);
          some = λ _. h.0;
          sane = t.sane;
          setup = t.setup;
          opens = t.opens;
          chunks = t.chunks;
        }

    act_keeps : (m : Sight) → Moves s.cap (left_len s) (width s) m → (again : ℕ → StepOut)
        → ((k : ℕ) → 0 < k → k ≤ width s → Keeps (drain k s) carry chunk (again k)) → Keeps s carry chunk (act s carry chunk m again)
    act_keeps (Say v) h again ih = say_keeps v h
    act_keeps (Pass y) h again ih =
        let k : ℕ = far y in
        let i : Keeps (drain k s) carry chunk (again k) = ih k h.0 h.1 in
        record {
          gone = k + i.gone;
          within = omega (arith, i.within, h.1);
          rests = i.rests ∙ rw (window_drain s carry chunk ok k, drop-drop i.gone k (window s carry chunk));
          used_by = omega (arith, i.used_by);
          some = λ e. omega (arith, h.0);
          sane = i.sane;
          setup = i.setup;
          opens = i.opens;
          chunks = i.chunks;
        }

  pub step_keeps : (turns : ℕ) (s : State) (carry : List ℕ) → Sane s carry chunk → width s < turns → Keeps s carry chunk (step_by turns s carry chunk)
  step_keeps zero s carry ok h = absurd (omega arith)
  step_keeps (suc f) s carry ok h =
      act_keeps s carry ok (move_of s carry chunk) (moves_in s carry ok) (λ k. step_by f (drain k s) carry chunk)
      (λ k p l. step_keeps f (drain k s) carry (drain_sane s carry chunk ok k l) (omega arith))
