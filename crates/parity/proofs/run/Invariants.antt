-- `parity::run` meets its contract: what is left, run on from the parity so far, is the whole.
use Rattle.std.proofs.Common.{◌≡◌, ◌<◌, ◌^◌, drop}
use Rattle.parity.specs.Parity.{parity_on}
use Rattle.parity.proofs.run.Given as goal

abbrev pub invariant-loop-byte : goal.invariant-loop-byte
invariant-loop-byte l = (l.crc < 2 ^ 24) × (parity_on l.crc (drop l.byte-index l.bytes) ≡ parity_on l.from l.bytes)
