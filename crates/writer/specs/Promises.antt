-- What the operations promise, as equalities with 02's definitions: the answer by its number, the next state, and every byte of
-- the memory.
use Rattle.std.specs.Prelude.{◌≡◌, ℕ, List, Result, ⊤}
use Rattle.writer_state.specs.declared.Refusal.{Refusal}
use Rattle.writer_state.specs.Refusals.{leave_no}
use Rattle.writer.specs.declared.Written.{Written}
use Rattle.writer.specs.Writing.{WriteOut, PollOut}

pub record Writes (is : WriteOut) (r : Written) (memory : List ℕ) : Type 0 where
  pub refusal : leave_no r.leave ≡ leave_no is.result.leave
  pub state : r.state ≡ is.result.state
  pub bytes : memory ≡ is.memory

pub record Polls (is : PollOut) (r : Result ⊤ Refusal) (memory : List ℕ) : Type 0 where
  pub refusal : leave_no r ≡ leave_no is.leave
  pub bytes : memory ≡ is.memory
