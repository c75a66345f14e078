-- 01, "Words": the window of a state over its carry's and its chunk's bytes, and draining it; an idle state.
use Rattle.std.specs.Prelude.{ℕ, ◌+◌, ◌-◌, min, false, List, ◌++◌, take, drop}
use Rattle.window.specs.declared.Mode.{Mode}
use Rattle.state.specs.declared.State.{State}

-- the carry's first `live` bytes hold data and the first `off` of these are used up: what is left, and how many they are
abbrev pub left : State → List ℕ → List ℕ
left s carry = drop s.off (take s.live carry)

abbrev pub left_len : State → ℕ
left_len s = s.live - s.off

-- what is left of the chunk after the part used
abbrev pub ahead : State → List ℕ → List ℕ
ahead s chunk = drop s.part chunk

-- what is left of the carry's live bytes, then what is left of the chunk; its length is w
abbrev pub window : State → List ℕ → List ℕ → List ℕ
window s carry chunk = left s carry ++ ahead s chunk

abbrev pub width : State → ℕ
width s = left_len s + (s.chunk - s.part)

-- how much of the chunk's rest fits behind n bytes
abbrev pub fitting : State → ℕ → ℕ
fitting s n = min (s.chunk - s.part) (s.cap - n)

-- the state with other live, off, chunk part used and used
abbrev pub moved : State → ℕ → ℕ → ℕ → ℕ → State
moved s live off part used = record { mode = s.mode; max = s.max; cap = s.cap; live = live; off = off; used = used; «open» = s.«open»; chunk = s.chunk; part = part }

-- draining k uses up the first k bytes of the window: the carry's first, then the chunk's
abbrev pub drain : ℕ → State → State
drain k s = moved s s.live (s.off + min (left_len s) k) (s.part + (k - left_len s)) (s.used + k)

-- an idle state with so many live bytes
abbrev pub idle : Mode → ℕ → ℕ → ℕ → State
idle mode max cap live = record { mode = mode; max = max; cap = cap; live = live; off = 0; used = 0; «open» = false; chunk = 0; part = 0 }
