-- `words::write_state` meets its contract: nine stores, one behind the other.
use Rattle.words.proofs.write_state.Goals as goal

pub returns : goal.returns
returns c = rw (c.mode_no.ensures, c.open_no.ensures)
