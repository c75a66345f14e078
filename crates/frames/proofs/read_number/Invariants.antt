-- `frames::read_number` meets its contract: the digits passed are read, and the others are to come.
use Rattle.std.proofs.Common.{◌≡◌, drop, Some}
use Rattle.frames.specs.Words.{digits_to, number_of}
use Rattle.frames.proofs.read_number.Given as goal

abbrev pub invariant-loop-d : goal.invariant-loop-d
invariant-loop-d l = number_of l.s ≡ digits_to (Some l.n) (drop l.d-index l.s)
