-- 02, "Writing frames": what each call answers, hands back and leaves in the lent memory.
use Rattle.std.specs.Prelude.{ℕ, ◌+◌, ◌/◌, ◌%◌, List, [], ◌∷◌, length, take, drop, Result, Ok, Err, ⊤}
use Rattle.std.proofs.Math.Seq.{paste}
use Rattle.sum.specs.Sum.{sum_of}
use Rattle.writer_state.specs.declared.Writer.{Writer}
use Rattle.writer_state.specs.declared.Refusal.{Refusal}
use Rattle.writer_state.specs.Refusals.{may_begin, may_poll, may_add, may_finish}
use Rattle.writer.specs.declared.Written.{Written}

pub record WriteOut : Type 0 where
  pub result : Written
  pub memory : List ℕ

abbrev pub out : Result ⊤ Refusal → Writer → List ℕ → WriteOut
out leave w memory = record { result = record { leave = leave; state = w }; memory = memory }

-- bytes put into the memory from a place on; those outside the written part stay
abbrev pub put : List ℕ → ℕ → List ℕ → List ℕ
put memory at bytes = paste memory at bytes (length bytes)

abbrev pub state : ℕ → ℕ → ℕ → Writer
state room len written = record { room = room; len = len; written = written }

-- ---- beginning

-- the six bytes before the payload: sync bytes, class, id, and the length, low byte first
abbrev pub head : ℕ → ℕ → ℕ → List ℕ
head class id n = 0xB5 ∷ 0x62 ∷ class ∷ id ∷ n % 256 ∷ n / 256 ∷ []

-- a refused one hands back a state with room 0, which is a bad state for every memory
abbrev pub begin_on : List ℕ → ℕ → ℕ → ℕ → Result ⊤ Refusal → WriteOut
begin_on memory class id n (Err r) = out (Err r) (state 0 0 0) memory
begin_on memory class id n (Ok tt) = out (Ok tt) (state (length memory) n 0) (put memory 0 (head class id n))

unfoldable pub beginning : List ℕ → ℕ → ℕ → ℕ → WriteOut
beginning memory class id n = begin_on memory class id n (may_begin (length memory) n)

-- ---- a piece: it stands behind those before it

abbrev pub add_on : Writer → List ℕ → List ℕ → Result ⊤ Refusal → WriteOut
add_on w memory bytes (Err r) = out (Err r) w memory
add_on w memory bytes (Ok tt) = out (Ok tt) (state w.room w.len (w.written + length bytes)) (put memory (6 + w.written) bytes)

unfoldable pub adding : Writer → List ℕ → List ℕ → WriteOut
adding w memory bytes = add_on w memory bytes (may_add w (length memory) (length bytes))

-- ---- finishing: the sum over class, id, length and payload, as they stand in the memory, goes behind the payload

abbrev pub check : ℕ → List ℕ → List ℕ
check n memory = let s = sum_of (take (n + 4) (drop 2 memory)) in s.a ∷ s.b ∷ []

abbrev pub finish_on : Writer → List ℕ → Result ⊤ Refusal → WriteOut
finish_on w memory (Err r) = out (Err r) w memory
finish_on w memory (Ok tt) = out (Ok tt) w (put memory (6 + w.len) (check w.len memory))

unfoldable pub finishing : Writer → List ℕ → WriteOut
finishing w memory = finish_on w memory (may_finish w (length memory))

-- ---- the MON-VER poll

abbrev pub poll_bytes : List ℕ
poll_bytes = 0xB5 ∷ 0x62 ∷ 0x0A ∷ 0x04 ∷ 0x00 ∷ 0x00 ∷ 0x0E ∷ 0x34 ∷ []

pub record PollOut : Type 0 where
  pub leave : Result ⊤ Refusal
  pub memory : List ℕ

abbrev pub poll_on : List ℕ → Result ⊤ Refusal → PollOut
poll_on memory (Err r) = record { leave = Err r; memory = memory }
poll_on memory (Ok tt) = record { leave = Ok tt; memory = put memory 0 poll_bytes }

unfoldable pub polling : List ℕ → PollOut
polling memory = poll_on memory (may_poll (length memory))
