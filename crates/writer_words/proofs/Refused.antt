-- A refused piece or finish hands the writer back, and a writer that was read and is written back leaves its words as they were.
use mathlib.Core.Path.{◌≡◌}
use mathlib.Core.List.{List}
use Prim.Native.Nat.{ℕ}
use lib.Seq.{set-get_or}
use Rattle.writer_words.specs.Words.{with_writer, writer_by}

pub same_writer_words : (words : List ℕ) → with_writer (writer_by words) words ≡ words
same_writer_words words = simp (set-get_or words 0 0, set-get_or words 1 0, set-get_or words 2 0)
