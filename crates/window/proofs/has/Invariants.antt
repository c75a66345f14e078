-- `window::has` meets its contract: what is hit is among the bytes so far.
use Rattle.std.proofs.Common.{◌≡◌, take}
use Rattle.std.specs.List.{list_any}
use Rattle.window.specs.Search.{is}
use Rattle.window.proofs.has.Given as goal

abbrev pub invariant-loop-y : goal.invariant-loop-y
invariant-loop-y l = l.hit ≡ list_any (is l.x) (take l.y-index l.s)
