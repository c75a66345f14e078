-- What is read on the quick way: a state whose mode reads no parity. Where none is told, the words may still be a state's.
use Rattle.std.specs.Prelude.{◌≡◌, false, List, ℕ, Option, Some, None}
use Rattle.window.specs.Sync.{has_parity}
use Rattle.state.specs.declared.State.{State}
use Rattle.words.specs.Words.{read_state}

abbrev pub ReadsPlainly : List ℕ → Option State → Type 0
ReadsPlainly words None = Unit {0}
ReadsPlainly words (Some s) = (read_state words ≡ Some s) × (has_parity s.mode ≡ false)
