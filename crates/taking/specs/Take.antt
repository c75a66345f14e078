-- 01, "Taking t": a body is brought to one side, and its place named.
use Rattle.std.specs.Prelude.{ℕ, ◌+◌, ◌-◌, List, ltb, leb, eqb}
use Rattle.std.proofs.Math.Seq.{paste}
use Rattle.carry.specs.Carry.{drain_carry}
use Rattle.window.specs.Pick.{pick}
use Rattle.taking.specs.declared.Side.{Side, TheVariants.{Carry, Chunk}}
use Rattle.state.specs.declared.State.{State}
use Rattle.taking.specs.declared.Taken.{Taken}
use Rattle.state.specs.Words.{left_len, ahead, fitting, moved}

pub record TakeOut : Type 0 where
  pub result : Taken
  pub carry : List ℕ

-- t bytes at a place, the state then, and the carry
abbrev pub taken : State → ℕ → Side → ℕ → ℕ → ℕ → ℕ → List ℕ → TakeOut
taken s t side start live off part carry =
    record { result = record { place = record { side = side; start = start; len = t }; state = moved s live off part (s.used + t) }; carry = carry }

-- all on one side, that place
abbrev pub take_chunk : State → List ℕ → ℕ → TakeOut
take_chunk s carry t = taken s t Chunk s.part s.live s.off (s.part + t) carry

abbrev pub take_carry : State → List ℕ → ℕ → TakeOut
take_carry s carry t = taken s t Carry s.off s.live (s.off + t) s.part carry

-- on both sides, with m bytes from the chunk: if m < C − live, as much of the chunk's rest as fits is copied behind the live bytes
abbrev pub take_grow : State → List ℕ → List ℕ → ℕ → TakeOut
take_grow s carry chunk t =
    let j = fitting s s.live in
    taken s t Carry s.off (s.live + j) (s.off + t) (s.part + j) (paste carry s.live (ahead s chunk) j)

-- else the carry is drained by `off` first, and just m bytes are copied
abbrev pub take_shift : State → List ℕ → List ℕ → ℕ → TakeOut
take_shift s carry chunk t =
    let m = t - left_len s in
    taken s t Carry 0 t t (s.part + m) (paste (drain_carry s.off s.live carry) (left_len s) (ahead s chunk) m)

unfoldable pub taking : State → List ℕ → List ℕ → ℕ → TakeOut
taking s carry chunk t =
    pick (eqb (left_len s) 0) (take_chunk s carry t)
    (pick (leb t (left_len s)) (take_carry s carry t)
    (pick (ltb (t - left_len s) (s.cap - s.live)) (take_grow s carry chunk t)
    (take_shift s carry chunk t)))
