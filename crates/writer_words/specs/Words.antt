-- The words in which a writer's state crosses to C: include/orgnevis.h says the same to a C programmer.
use Rattle.std.specs.Prelude.{ℕ, List, [], ◌∷◌, get_or}
use Rattle.std.proofs.lemmas.List.Edits.{sets}
use Rattle.writer_state.specs.declared.Writer.{Writer}

-- a writer: three words, in the order of the header; those after them are left as they are
abbrev pub writer_words : Writer → List ℕ
writer_words w = w.room ∷ w.len ∷ w.written ∷ []

-- stored from word 0 on
abbrev pub with_writer : Writer → List ℕ → List ℕ
with_writer w words = sets words 0 (writer_words w)

-- any words are a writer's
abbrev pub writer_by : List ℕ → Writer
writer_by words = record { room = get_or words 0 0; len = get_or words 1 0; written = get_or words 2 0 }
