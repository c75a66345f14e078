-- The turns of `fill`: each puts one more line behind those before it.
use Rattle.std.proofs.Common.{◌≡◌, ℕ, ◌+◌, ◌<◌, Bool, true, false, List, [], ◌++◌, length, sym, refl, ap, ◌∙◌, subst, true≢false, append-nil}
use Rattle.text.specs.declared.lines.Lines.{Lines as Buffer}
use Rattle.text.specs.Adds.{Adds}
use Rattle.text.proofs.Laws.{behind, nothing}
use Rattle.teller.specs.declared.Run.{Run}
use Rattle.teller.specs.Words.{Point, Words, Uses, GetsOn}
use Rattle.teller.specs.Telling.{point_of, onward, Tells, Lines, no_line, next_line, is_full, is_whole, Fills}

-- after so many turns, after each of which there may be more
pub record Going {M : Type 0} (w : Words M) (l : Run M) (carry chunk : List ℕ) (b : Buffer) (now : Run M) (carryNow : List ℕ) (bNow : Buffer) : Type 0 where
  pub text : List ℕ
  pub lines : Lines w l.used chunk (point_of l carry) text (point_of now carryNow)
  pub adds : Adds text b bNow
  pub run : now ≡ onward l (point_of now carryNow)

with_carry : {M : Type 0} → Point M → List ℕ → Point M
with_carry p carry = record { by = p.by; state = p.state; carry = carry }

pub going_starts : {M : Type 0} {w : Words M} (l : Run M) (carry chunk : List ℕ) (b : Buffer) → Going w l carry chunk b l carry b
going_starts l carry chunk b = record { text = []; lines = no_line; adds = nothing b; run = refl }

module _ {M : Type 0} {w : Words M} {l : Run M} {carry chunk : List ℕ} {b : Buffer} {now : Run M} {c : List ℕ} {o : Buffer} (g : Going w l carry chunk b now c o) where
  pub going_full : {longest : ℕ} → length o.out.now < o.len + longest → Fills w longest l carry chunk b true now c o
  going_full f = record { text = g.text; says = is_full g.lines; adds = g.adds; run = g.run; full = λ _. f }

  module _ (on : GetsOn w) {more : Bool} {r : Run M} {c' : List ℕ} {o' : Buffer} (t : Tells w now c chunk o more r c' o') where
    here : point_of r c' ≡ w.after chunk (point_of now c)
    unfolding with_carry
    here = ap (λ (x : Run M). point_of x c') t.run ∙ ap (with_carry (w.after chunk (point_of now c))) t.carries

    run : r ≡ onward l (point_of r c')
    run =
        t.run
        ∙ ap (λ (x : Run M). onward x (w.after chunk (point_of now c))) g.run
        ∙ ap (λ (z : Point M). onward l z) (sym here)

    adds : Adds (g.text ++ w.line l.used chunk (point_of now c)) b o'
    adds =
        let used : now.used ≡ l.used = ap (λ (x : Run M). x.used) g.run in
        behind g.adds (rw used at t.adds)

    pub going_on : more ≡ true → Going w l carry chunk b r c' o'
    going_on m = record {
      text = g.text ++ w.line l.used chunk (point_of now c);
      lines = rw here (next_line g.lines (sym t.goes ∙ m));
      adds = adds;
      run = run;
    }

    pub going_ends : {longest : ℕ} → more ≡ false → Fills w longest l carry chunk b false r c' o'
    going_ends m =
        let e = sym t.goes ∙ m in
        record {
          text = g.text;
          says = rw here (is_whole g.lines e);
          adds = rw (on.silent l.used chunk (point_of now c) e, append-nil) at adds;
          run = run;
          full = λ f. absurd (true≢false (sym f));
        }

    pub going_uses : more ≡ true → Uses now.state r.state
    going_uses m = subst (λ (p : Point M). Uses now.state p.state) (sym here) (on.uses chunk (point_of now c) (sym t.goes ∙ m))
