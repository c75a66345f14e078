-- `window::past_64` meets its contract: each block that is passed has none of what is looked for.
use Rattle.std.proofs.Common.{◌≡◌, drop}
use Rattle.std.specs.Slice.Iter.{chunks_exact_rest, chunks_exact_size}
use Rattle.window.specs.Search.{told, PastNone}
use Rattle.window.proofs.past_64.Given as goal

abbrev pub invariant-loop-block : goal.invariant-loop-block
invariant-loop-block l = record { size : chunks_exact_size l.block-iterator ≡ 64; rest : chunks_exact_rest l.block-iterator ≡ drop l.i l.s; past : PastNone (told l.needle) l.s 0 l.i }
