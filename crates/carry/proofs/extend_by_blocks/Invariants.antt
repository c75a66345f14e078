-- `carry::extend_by_blocks` meets its contract: the first `copied` bytes have been copied, and a turn's block goes on from there.
use mathlib.Core.Path.{◌≡◌}
use Prim.Native.Nat.{◌-◌, ◌≤◌}
use lib.Seq.{paste}
use Rattle.carry.proofs.extend_by_blocks.Given as goal

abbrev pub invariant-loop-copied : goal.invariant-loop-copied
invariant-loop-copied l = (l.copied ≤ l.n) × (l.carry ≡ paste l.initial.carry l.live l.from l.copied)

abbrev pub decreases-loop-copied : goal.decreases-loop-copied
decreases-loop-copied l = l.n - l.copied
