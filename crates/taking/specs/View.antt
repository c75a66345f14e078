-- 01, "Opening, closing, viewing": viewing.
use Rattle.std.specs.Prelude.{ℕ, ◌+◌, List, length, take, drop, ltb, Result, Ok, Err, ⊤}
use Rattle.window.specs.Pick.{pick}
use Rattle.state.specs.declared.Refusal.{Refusal, TheVariants.{BadPlace}}
use Rattle.taking.specs.declared.Side.{Side, TheVariants.{Carry, Chunk}}
use Rattle.taking.specs.declared.Place.{Place}

abbrev pub side_of : Side → List ℕ → List ℕ → List ℕ
side_of Carry carry chunk = carry
side_of Chunk carry chunk = chunk

-- 7, bad place: start + length passes the end of its side
abbrev pub view_leave : Place → ℕ → Result ⊤ Refusal
view_leave p sideLen = pick (ltb sideLen (p.start + p.len)) (Err BadPlace) (Ok tt)

abbrev pub may_view : List ℕ → List ℕ → Place → Result ⊤ Refusal
may_view carry chunk p = view_leave p (length (side_of p.side carry chunk))

-- that part of the carry or of the chunk; a refused view is the empty beginning of the carry
abbrev pub view_in : List ℕ → List ℕ → Place → Result ⊤ Refusal → List ℕ
view_in side carry p (Err r) = take 0 carry
view_in side carry p (Ok tt) = take p.len (drop p.start side)

unfoldable pub view : List ℕ → List ℕ → Place → List ℕ
view carry chunk p = view_in (side_of p.side carry chunk) carry p (may_view carry chunk p)
