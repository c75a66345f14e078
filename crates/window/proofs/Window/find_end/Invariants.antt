-- `window::Window::find_end` meets its contract: no end mark begins before i, and where i is within the window a CR stands there.
use Rattle.std.proofs.Common.{◌≡◌, true, ◌-◌, ◌≤◌, ◌<◌, length, get_or, drop, eqb}
use Rattle.window.specs.EndMark.{end_mark}
use Rattle.window.specs.Window.{bytes, width}
use Rattle.window.proofs.Window.find_end.Given as goal

abbrev pub invariant-loop-i : goal.invariant-loop-i
invariant-loop-i l = record {
  within : l.i ≤ width l.self;
  none_before : end_mark 0 (bytes l.self) ≡ end_mark l.i (drop l.i (bytes l.self));
  cr : l.i < length (bytes l.self) → eqb (get_or (bytes l.self) l.i 0) 0x0D ≡ true;
}

abbrev pub decreases-loop-i : goal.decreases-loop-i
decreases-loop-i l = width l.self - l.i
