-- What a teller says of steps with a chunk: what each makes, its line, and whether there may be more; and the first line and the last.
use Rattle.std.specs.Prelude.{◌≡◌, ℕ, ◌<◌, ◌≤◌, Bool, true, false, List, []}
use Rattle.window.specs.declared.Mode.{Mode}
use Rattle.state.specs.declared.State.{State}

-- what steps change
pub record Point (M : Type 0) : Type 0 where
  pub by : M
  pub state : State
  pub carry : List ℕ

-- the first line, for a mode, MAX and C; what a step with a chunk makes, its line, where earlier closes reported `before` bytes as
-- used, and whether there may be more; and the last line. Where there is no line, it is no bytes
pub record Words (M : Type 0) : Type 0 where
  pub first : Mode → (max cap : ℕ) → List ℕ
  pub after : (chunk : List ℕ) → Point M → Point M
  pub line : (before : ℕ) (chunk : List ℕ) → Point M → List ℕ
  pub goes_on : (chunk : List ℕ) → Point M → Bool
  pub last : M → (used kept lost : ℕ) → List ℕ

-- a byte or more is used up, of 32,768 at most
pub record Uses (s t : State) : Type 0 where
  pub more : s.used < t.used
  pub within : t.used ≤ 32768

-- a step after which there may be more uses up a byte or more; any other has no line
pub record GetsOn {M : Type 0} (w : Words M) : Type 0 where
  pub uses : (chunk : List ℕ) (p : Point M) → w.goes_on chunk p ≡ true → Uses p.state (w.after chunk p).state
  pub silent : (before : ℕ) (chunk : List ℕ) (p : Point M) → w.goes_on chunk p ≡ false → w.line before chunk p ≡ []
