-- What the inner functions that open at once are told and answer.
use Rattle.std.specs.Prelude.{Bool, true, false, ℕ, List}
use Rattle.state.specs.declared.State.{State}
use Rattle.opening.specs.Operations.{opening}
use Rattle.words.specs.Words.{opened_words}

-- the state's words where an opening that is granted is done at once, and where it is not
abbrev pub opened_if : Bool → State → List ℕ → List ℕ → List ℕ → List ℕ
opened_if true s carry chunk words = opened_words (opening s carry chunk).state words
opened_if false s carry chunk words = words
