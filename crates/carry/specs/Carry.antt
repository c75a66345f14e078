-- 01, "Draining the carry by k". Copying behind the live bytes is the library's `paste`.
use Rattle.std.specs.Prelude.{ℕ, ◌-◌, List, ◌++◌, take, drop}

-- byte i becomes old byte k + i for i < live − k, and all other bytes stay; if k ≥ live, no byte is written
abbrev pub drain_carry : ℕ → ℕ → List ℕ → List ℕ
drain_carry k live carry = drop k (take live carry) ++ drop (live - k) carry
