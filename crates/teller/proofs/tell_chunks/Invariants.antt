-- `teller::tell_chunks` is safe: the buffer keeps its size.
use Rattle.std.proofs.Common.{◌≡◌, length}
use Rattle.teller.proofs.tell_chunks.Given as goal

abbrev pub invariant-loop : goal.invariant-loop
invariant-loop g l = length l.lines.out.now ≡ length l.fn.out
