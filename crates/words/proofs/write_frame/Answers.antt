-- `words::write_frame` meets its contract.
use Rattle.words.proofs.write_frame.Goals as goal

pub returns : goal.returns
returns c = rw c.side_no.ensures
