-- What a quick way leaves: where it is taken, what the step leaves; else the words and the carry as they were.
use Rattle.std.specs.Prelude.{◌≡◌, Bool, true, false, ℕ, List}
use Rattle.framer.specs.Step.{StepOut}
use Rattle.words.specs.Words.{stepped_words, answer_words}

-- what a step leaves in the words that it finds
pub record Leaves (o : StepOut) (before words out carry : List ℕ) : Type 0 where
  pub stepped : words ≡ stepped_words o.result.state before
  pub told : out ≡ answer_words o.result.answer
  pub kept : carry ≡ o.carry

abbrev pub Quickly : Bool → StepOut → List ℕ → List ℕ → List ℕ → List ℕ → List ℕ → Type 0
Quickly true o before words out carryBefore carry = Leaves o before words out carry
Quickly false o before words out carryBefore carry = (words ≡ before) × (carry ≡ carryBefore)
