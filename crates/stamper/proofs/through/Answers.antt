-- `stamper::through` meets its contract: the teller's is spelled.
use Rattle.stamper.proofs.Spelled.{through}
use Rattle.stamper.proofs.through.Goals as goal

pub returns : goal.returns
returns g c = record { through = through c.through.ensures; told = c.through.ensures }
