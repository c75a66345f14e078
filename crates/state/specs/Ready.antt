-- What the operations' parts are told of a call that is not refused.
use Rattle.std.specs.Prelude.{◌≡◌, ℕ, ◌+◌, ◌≤◌, ◌<◌, List, length}
use Rattle.state.specs.declared.State.{State}
use Rattle.state.specs.Words.{left_len, width}

-- the state's numbers fit each other, and its own carry and chunk
pub record Sane (s : State) (carry chunk : List ℕ) : Type 0 where
  pub caps : length carry ≡ s.cap
  pub lives : s.live ≤ s.cap
  pub offs : s.off ≤ s.live
  pub parts : s.part ≤ s.chunk
  pub chunks : length chunk ≡ s.chunk

-- and keep 01's sizes
pub record Ready (s : State) (carry chunk : List ℕ) : Type 0 where
  pub sane : Sane s carry chunk
  pub small : s.cap ≤ 16384
  pub short : s.chunk ≤ 16384
  pub counts : s.used + width s ≤ 32768

-- t bytes can be taken: the hand-out test passed, with 0 drained
pub record Room (s : State) (t : ℕ) : Type 0 where
  pub all : t ≤ width s
  pub fits : 0 < left_len s → left_len s < t → t ≤ s.cap
