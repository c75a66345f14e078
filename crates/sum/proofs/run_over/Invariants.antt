-- `sum::run_over` meets its contract: what is left to sum, run on from the sums so far, is the whole.
use Rattle.std.proofs.Common.{◌≡◌, drop}
use Rattle.sum.specs.Sum.{sum_on}
use Rattle.sum.proofs.run_over.Given as goal

abbrev pub invariant-loop-byte : goal.invariant-loop-byte
invariant-loop-byte l = sum_on (record { a = l.a; b = l.b }) (drop l.byte-index l.bytes) ≡ sum_on (record { a = l.initial.a; b = l.initial.b }) l.bytes
