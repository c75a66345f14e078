-- `seek::seek` meets its contract: turn by turn, the first `skip` bytes are passed in silence.
use Prim.Native.Nat.{◌-◌, ◌≤◌}
use lib.ListN.{length}
use Rattle.window.specs.Window.{bytes, width}
use Rattle.seek.specs.Passed.{Passed}
use Rattle.seek.proofs.seek.Given as goal

abbrev pub invariant-loop-skip : goal.invariant-loop-skip
invariant-loop-skip l = record { within : l.skip ≤ width l.window; passed : Passed l.mode l.max l.cap (length l.window.carry.now) (bytes l.window) l.skip }

abbrev pub decreases-loop-skip : goal.decreases-loop-skip
decreases-loop-skip l = width l.window - l.skip
