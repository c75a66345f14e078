-- `framer::tale_at` meets its contract.
use Rattle.framer.proofs.tale_at.Goals as goal

pub returns-in-WrongSum : goal.returns-in-WrongSum
returns-in-WrongSum c = rw c.in-WrongSum.is

pub returns-in-WrongParity : goal.returns-in-WrongParity
returns-in-WrongParity c = rw c.in-WrongParity.is

pub returns-in-NoRoom : goal.returns-in-NoRoom
returns-in-NoRoom c = rw c.in-NoRoom.is
