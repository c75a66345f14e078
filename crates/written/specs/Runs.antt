-- 02, "Writing frames": what runs of calls write is the interface description's frame.
use Rattle.std.specs.Prelude.{◌≡◌, List, [], ◌∷◌, ◌++◌, ℕ, ◌+◌, ◌≤◌, length, drop, Ok, Err}
use Rattle.stream.specs.Runs.{joined}
use Rattle.stream.specs.Interface.{frame}
use Rattle.writer_state.specs.declared.Writer.{Writer}
use Rattle.writer_state.specs.declared.Refusal.{Refusal}
use Rattle.writer.specs.Writing.{WriteOut, beginning, adding, finishing, poll_bytes}

-- ---- the memory untouched between calls: each call is handed the state and the memory as the call before left them

-- pieces that are granted, with refused calls anywhere between (of a refused begin the state is not taken): the state and the memory
-- before them, and after
pub data Fills : Writer → List ℕ → List (List ℕ) → Writer → List ℕ → Type 0 where
  done : {w : Writer} {m : List ℕ} → Fills w m [] w m
  added : {w v : Writer} {m after p : List ℕ} {ps : List (List ℕ)} → (adding w m p).result.leave ≡ Ok tt
      → Fills (adding w m p).result.state (adding w m p).memory ps v after → Fills w m (p ∷ ps) v after
  not_added : {w v : Writer} {m after : List ℕ} {ps : List (List ℕ)} (p : List ℕ) (r : Refusal) → (adding w m p).result.leave ≡ Err r
      → Fills (adding w m p).result.state (adding w m p).memory ps v after → Fills w m ps v after
  not_begun : {w v : Writer} {m after : List ℕ} {ps : List (List ℕ)} (class id n : ℕ) (r : Refusal) → (beginning m class id n).result.leave ≡ Err r
      → Fills w (beginning m class id n).memory ps v after → Fills w m ps v after
  not_finished : {w v : Writer} {m after : List ℕ} {ps : List (List ℕ)} (r : Refusal) → (finishing w m).result.leave ≡ Err r
      → Fills (finishing w m).result.state (finishing w m).memory ps v after → Fills w m ps v after

-- from a begin to a finish, both granted, the memory ends with the frame of class, id and the joined pieces at its front, and as it was
-- behind that. So the bytes depend on nothing else
abbrev pub OnlyTheFrame : Type 0
OnlyTheFrame =
    (memory : List ℕ) (class id n : ℕ) → (beginning memory class id n).result.leave ≡ Ok tt
    → (pieces : List (List ℕ)) (w : Writer) (after : List ℕ) → Fills (beginning memory class id n).result.state (beginning memory class id n).memory pieces w after
    → (finishing w after).result.leave ≡ Ok tt
    → (length (joined pieces) ≡ n) × ((finishing w after).memory ≡ frame class id (joined pieces) ++ drop (n + 8) memory)

-- however a payload that fits is cut into pieces, empty ones among them, every call is granted
abbrev pub AllGranted : WriteOut → List (List ℕ) → Type 0
AllGranted o [] = (o.result.leave ≡ Ok tt) × ((finishing o.result.state o.memory).result.leave ≡ Ok tt)
AllGranted o (p ∷ ps) = (o.result.leave ≡ Ok tt) × AllGranted (adding o.result.state o.memory p) ps

abbrev pub EveryCuttingIsTaken : Type 0
EveryCuttingIsTaken =
    (memory : List ℕ) (class id : ℕ) (pieces : List (List ℕ)) → length (joined pieces) ≤ 16376 → length (joined pieces) + 8 ≤ length memory
    → AllGranted (beginning memory class id (length (joined pieces))) pieces

-- and these calls leave the frame
abbrev pub written : WriteOut → List (List ℕ) → List ℕ
written o [] = (finishing o.result.state o.memory).memory
written o (p ∷ ps) = written (adding o.result.state o.memory p) ps

abbrev pub EveryCuttingWritesTheFrame : Type 0
EveryCuttingWritesTheFrame =
    (memory : List ℕ) (class id : ℕ) (pieces : List (List ℕ)) → length (joined pieces) ≤ 16376 → length (joined pieces) + 8 ≤ length memory
    → written (beginning memory class id (length (joined pieces))) pieces ≡ frame class id (joined pieces) ++ drop (length (joined pieces) + 8) memory

-- the poll is the frame of class 0A, id 04 and no payload
abbrev pub PollIsAFrame : Type 0
PollIsAFrame = poll_bytes ≡ frame 0x0A 0x04 []
