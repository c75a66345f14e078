-- `words::read_plain` meets its contract.
use Rattle.std.proofs.Common.{sym, ◌∙◌}
use Rattle.words.proofs.Plainly.{plainly_asked}
use Rattle.words.proofs.read_plain.Goals as goal

pub returns : goal.returns
returns c = let w = c.args.words.now in
    let mode = c.in_ok-mode.mode in
    rw c.state_by.ensures (plainly_asked w mode c.args.«open» c.if-words-gt65535.false (c.if-words-open_no.false ∙ c.open_no.ensures) (sym c.read_mode.ensures ∙ c.in_ok-mode.was), sym c.has_parity.ensures ∙ c.if-has_parity.false)
