-- 01, "One step": repeat. The bytes that a step passes in silence, and where it stops.
use Rattle.std.specs.Prelude.{◌≡◌, ℕ, ◌+◌, ◌-◌, ◌≤◌, List, length, drop}
use Rattle.window.specs.declared.Mode.{Mode}
use Rattle.claim.specs.declared.Verdict.{Verdict}
use Rattle.look.specs.declared.Why.{Why}
use Rattle.look.specs.declared.Sight.{Sight, TheVariants.{Pass, Say}}
use Rattle.look.specs.Rules.{far}
use Rattle.look.specs.Moves.{step_move}

-- the move at k bytes into a window W of which u bytes lie in the carry
abbrev pub move_at : Mode → ℕ → ℕ → ℕ → List ℕ → ℕ → Sight
move_at mode max cap u W k = step_move mode max cap (u - k) (drop k W)

-- each turn over the first n bytes of W passes what it looks at
pub data Passed (mode : Mode) (max cap u : ℕ) (W : List ℕ) : ℕ → Type 0 where
  start : Passed mode max cap u W 0
  turn : (k n : ℕ) (y : Why) → Passed mode max cap u W k → move_at mode max cap u W k ≡ Pass y → k + far y ≡ n → Passed mode max cap u W n

-- k bytes are passed, and there v is said
pub record Stops (mode : Mode) (max cap u : ℕ) (W : List ℕ) (k : ℕ) (v : Verdict) : Type 0 where
  pub passed : Passed mode max cap u W k
  pub within : k ≤ length W
  pub there : move_at mode max cap u W k ≡ Say v
