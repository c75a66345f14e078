-- `carry::extend_by_bytes` meets its contract: after i turns the first i bytes have been copied.
use mathlib.Core.Path.{◌≡◌}
use lib.Seq.{paste}
use Rattle.carry.proofs.extend_by_bytes.Given as goal

abbrev pub invariant-loop-i : goal.invariant-loop-i
invariant-loop-i l = l.carry ≡ paste l.initial.carry l.live l.from l.i
