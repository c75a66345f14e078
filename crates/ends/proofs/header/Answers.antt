-- `ends::header` meets its contract: its pieces, one behind the other.
use Rattle.std.proofs.Common.{arith}
use Rattle.text.proofs.Laws.{behind}
use Rattle.ends.proofs.Modes.{mode_digit}
use Rattle.ends.proofs.header.Goals as goal

-- the mode's number is one digit: with two numbers of 20 digits, the line has 66 bytes at most
pub sized-requires : goal.sized-requires
sized-requires c =
    let mode = rw c.mode_no.ensures at c.labelled.ensures.adds.puts.place in
    omega (arith, mode_digit c.args.mode, mode)

pub returns : goal.returns
returns c =
    let mode = rw c.mode_no.ensures at c.labelled.ensures.adds in
    let setting = rw c.has_parity.ensures at c.setting.ensures.adds in
    behind (behind (behind mode setting) c.labelled-2.ensures.adds) c.sized.ensures
