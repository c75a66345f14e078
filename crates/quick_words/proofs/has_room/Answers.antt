-- `quick_words::has_room` meets its contract.
use mathlib.Core.Path.{sym}
use mathlib.Core.Bool.{true≢false}
use Rattle.quick_words.proofs.has_room.Goals as goal

pub returns-then-left-before : goal.returns-then-left-before
returns-then-left-before c = λ e. absurd (true≢false (sym e))
