-- `text::Lines::hex` meets its contract: no digits where none are asked, and otherwise the digits before the last, and the last
-- behind them.
use Rattle.std.proofs.Common.{arith}
use Rattle.text.proofs.Laws.{behind, nothing}
use Rattle.text.proofs.Digits.{hex_none, hex_more}
use Rattle.text.proofs.lines.Lines.+hex.Goals as goal

pub returns-then-places-gt0-clause-adds : goal.returns-then-places-gt0-clause-adds
returns-then-places-gt0-clause-adds t c =
    rw (hex_more c.args.places c.args.n c.if-places-gt0.true)
    (behind c.hex.ensures.adds (rw c.hex_digit.ensures at c.text.ensures))

pub returns-else-places-gt0-clause-adds : goal.returns-else-places-gt0-clause-adds
returns-else-places-gt0-clause-adds t c = rw (hex_none c.args.places c.args.n (omega (arith, c.if-places-gt0.false))) (nothing c.args.self.now)
