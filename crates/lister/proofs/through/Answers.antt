-- `lister::through` meets its contract: the teller's is spelled.
use Rattle.lister.proofs.Spelled.{lists}
use Rattle.lister.proofs.through.Goals as goal

pub returns : goal.returns
returns g c = record { lists = lists c.through.ensures; buffer = c.through.ensures.buffer; told = c.through.ensures }
