-- `quick_words::wait` meets its contract: draining nothing leaves the state.
use mathlib.Core.Path.{refl, sym, ap, ◌∙◌}
use Rattle.state.specs.declared.State.{State}
use Rattle.state.proofs.Window.{drain_zero}
use Rattle.words.specs.Words.{stepped_words}
use Rattle.quick_words.proofs.wait.Goals as goal

pub returns : goal.returns
returns c = let x = c.args in
    λ carry chunk. record {
      stepped = c.write_stepped.ensures ∙ ap (λ (s : State). stepped_words s x.words.now) (sym (drain_zero x.s));
      told = c.write_plain.ensures;
      kept = refl;
    }
