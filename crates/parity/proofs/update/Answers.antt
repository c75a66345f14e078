-- `parity::update` meets its contract: that the table is right is computed here, over all entries.
use mathlib.Core.Path.{refl}
use Rattle.parity.specs.Parity.{bits, bits_of, reduce, divide, parity_of, remainders_from}
use Rattle.parity.proofs.update.Goals as goal

pub run-requires : goal.run-requires
unfolding remainders_from parity_of bits_of bits divide reduce
run-requires c = refl
