-- A state read on the quick way is the one that its words say.
use Rattle.std.specs.Prelude.{Some}
use mathlib.Core.Path.{◌≡◌, refl, ap, ◌∙◌}
use mathlib.Core.Bool.{Bool, true, false}
use mathlib.Core.List.{List}
use Prim.Native.Nat.{ℕ, ◌≤◌}
use lib.ListN.{get_or}
use borrow.Author.Tests.{le-ltb}
use Rattle.window.specs.Pick.{pick}
use Rattle.window.specs.declared.Mode.{Mode}
use Rattle.state.specs.declared.State.{State}
use Rattle.words.specs.Words.{open_no, read_mode, state_by, read_state}

pub plainly : (w : List ℕ) (mode : Mode) (o : Bool) → get_or w 1 0 ≤ 65535 → get_or w 6 0 ≡ open_no o → read_mode (get_or w 0 0) ≡ Some mode
    → read_state w ≡ Some (state_by mode w)
unfolding read_state pick
plainly w mode true m e r = rw (le-ltb _ _ m, e, r) (rw e)
plainly w mode false m e r = rw (le-ltb _ _ m, e, r) (rw e)

-- the words' state, but open or idle as asked
abbrev pub as_asked : Mode → List ℕ → Bool → State
as_asked mode w o = let s = state_by mode w in
    record { mode = mode; max = s.max; cap = s.cap; live = s.live; off = s.off; used = s.used; «open» = o; chunk = s.chunk; part = s.part }

-- where word 6 says what is asked, that is the words' state
state_asked : (w : List ℕ) (mode : Mode) (o : Bool) → get_or w 6 0 ≡ open_no o → state_by mode w ≡ as_asked mode w o
state_asked w mode true e = rw e refl
state_asked w mode false e = rw e refl

pub plainly_asked : (w : List ℕ) (mode : Mode) (o : Bool) → get_or w 1 0 ≤ 65535 → get_or w 6 0 ≡ open_no o → read_mode (get_or w 0 0) ≡ Some mode
    → read_state w ≡ Some (as_asked mode w o)
plainly_asked w mode o m e r = plainly w mode o m e r ∙ ap Some (state_asked w mode o e)
