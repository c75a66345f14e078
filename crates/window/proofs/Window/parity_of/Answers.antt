-- `window::Window::parity_of` meets its contract: the first slice's bytes, then the second's.
use mathlib.Core.Path.{ap, ◌∙◌}
use Rattle.parity.specs.Parity.{parity_of}
use Rattle.parity.proofs.Laws.{on_start, of_append}
use Rattle.window.proofs.Laws.{take_two}
use Rattle.window.proofs.Window.parity_of.Goals as goal

pub returns : goal.returns
returns c = let x = c.args in
    c.update.ensures ∙ rw (c.update-first.ensures, c.new.ensures, c.min-t.ensures, on_start, of_append) (ap parity_of (take_two x.to x.self.carry.now x.self.chunk.now))
