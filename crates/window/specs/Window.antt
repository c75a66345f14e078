-- 01, "Words": the window, what is left of the carry, then what is left of the chunk, read as one list.
use Rattle.std.specs.Prelude.{ℕ, ◌+◌, List, ◌++◌, length}
use Rattle.window.specs.declared.Window.{Window}

-- its bytes
abbrev pub bytes : Window → List ℕ
bytes w = w.carry.now ++ w.chunk.now

-- how many they are
abbrev pub width : Window → ℕ
width w = length w.carry.now + length w.chunk.now
