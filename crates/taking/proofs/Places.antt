-- A place, and whether it ends within its side.
use Rattle.std.specs.Prelude.{Result, Ok, ⊤}
use mathlib.Core.Path.{◌≡◌}
use Prim.Native.Nat.{ℕ, ◌+◌, ◌≤◌}
use mathlib.Core.List.{List}
use native.Mathlib.Omega.{arith}
use lib.ListN.{length, take, drop}
use borrow.Author.Tests.{ltb-false, le-ltb}
use Rattle.window.specs.Pick.{pick}
use Rattle.window.proofs.Pick.{by_pick}
use Rattle.state.specs.declared.Refusal.{Refusal}
use Rattle.taking.specs.declared.Place.{Place}
use Rattle.taking.specs.View.{side_of, view_leave, view}

-- a place that is granted ends within its side
pub view_ends : (p : Place) (sideLen : ℕ) → view_leave p sideLen ≡ Ok tt → p.start + p.len ≤ sideLen
view_ends p sideLen =
    by_pick (λ (l : Result ⊤ Refusal). l ≡ Ok tt → p.start + p.len ≤ sideLen)
    (λ _ e. let z : ◌≡◌ {A = ℕ} 0 1 = cc in absurd (omega arith))
    (λ t _. ltb-false sideLen (p.start + p.len) t)

-- a place that does is what it names
pub view_good : (carry chunk : List ℕ) (p : Place) → p.start + p.len ≤ length (side_of p.side carry chunk)
    → view carry chunk p ≡ take p.len (drop p.start (side_of p.side carry chunk))
unfolding view pick
view_good carry chunk p h = rw (le-ltb _ _ h)
