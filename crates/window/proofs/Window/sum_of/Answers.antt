-- `window::Window::sum_of` meets its contract: the part is the first slice's, then the second's.
use mathlib.Core.Path.{ap, ◌∙◌}
use mathlib.Core.List.{List}
use Prim.Native.Nat.{ℕ}
use Rattle.sum.specs.Sum.{zeros, sum_on}
use Rattle.sum.proofs.Laws.{sum_append}
use Rattle.window.proofs.Laws.{part_two}
use Rattle.window.proofs.Window.sum_of.Goals as goal

pub returns : goal.returns
returns c = let x = c.args in
    c.update.ensures ∙ rw (c.update-first.ensures, c.new.ensures, c.min-f.ensures, c.min-t.ensures, ← sum_append zeros)
    (ap (λ (l : List ℕ). sum_on zeros l) (part_two x.self.carry.now x.self.chunk.now x.from x.to c.requires.0))
