-- The slice that the code lends, `&carry[off..live]`, is what is left of the carry, with which the window begins.
use mathlib.Core.Path.{◌≡◌, sym, ◌∙◌}
use mathlib.Core.List.{List}
use mathlib.Core.Bool.{true}
use Prim.Native.Nat.{ℕ, ◌<◌}
use native.Mathlib.Omega.{arith}
use native.Mathlib.Nat.{add-zero}
use lib.ListN.{length, get_or, length-append}
use lib.Seq.{get_or-drop, get_or-take}
use Rattle.window.specs.Sync.{is_sync, first_sync}
use Rattle.window.proofs.Laws.{joined_left, first_here}
use Rattle.state.specs.declared.State.{State}
use Rattle.state.specs.Words.{left, ahead, window}
use Rattle.state.specs.Ready.{Sane}
use Rattle.state.proofs.Window.{left_length}
pub use Rattle.state.proofs.Window.{left_part}

-- where what is left of the carry begins with a sync byte, that is the window's first
pub syncs_at_once : (s : State) (carry chunk : List ℕ) → Sane s carry chunk → s.off < s.live → is_sync s.mode (get_or carry s.off 0) ≡ true
    → first_sync s.mode (window s carry chunk) ≡ 0
syncs_at_once s carry chunk ok h e =
    let l : 0 < length (left s carry) = rw (left_length s carry chunk ok) (omega arith) in
    let w : 0 < length (window s carry chunk) = rw length-append (omega arith) in
    let b : get_or (window s carry chunk) 0 0 ≡ get_or carry s.off 0 =
    sym (joined_left (left s carry) (ahead s chunk) 0 l) ∙ rw (get_or-drop, add-zero) (get_or-take s.live carry s.off 0 h) in
    first_here (is_sync s.mode) (window s carry chunk) 0 w (rw b e)
