-- What each of the writer's C functions answers and leaves: the operation's own definition, in words.
use Rattle.std.specs.Prelude.{ℕ, List}
use Rattle.writer_state.specs.Refusals.{leave_no}
use Rattle.writer.specs.Writing.{WriteOut, beginning, adding, finishing}
use Rattle.writer_words.specs.Words.{with_writer, writer_by}

-- a number answered, the writer's words, and the memory's bytes
pub record Wrote : Type 0 where
  pub number : ℕ
  pub words : List ℕ
  pub memory : List ℕ

abbrev pub wrote : List ℕ → WriteOut → Wrote
wrote words o = record { number = leave_no o.result.leave; words = with_writer o.result.state words; memory = o.memory }

abbrev pub begins : List ℕ → List ℕ → ℕ → ℕ → ℕ → Wrote
begins words memory class id len = wrote words (beginning memory class id len)

abbrev pub adds : List ℕ → List ℕ → List ℕ → Wrote
adds words memory bytes = wrote words (adding (writer_by words) memory bytes)

abbrev pub finishes : List ℕ → List ℕ → Wrote
finishes words memory = wrote words (finishing (writer_by words) memory)
