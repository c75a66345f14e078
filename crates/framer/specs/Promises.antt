-- What a step promises, as an equality with 01's definition: an answer by its number and values, the next state, and every byte
-- of the carry. A view promises its bytes, and needs no record.
use Rattle.std.specs.Prelude.{◌≡◌, List, ℕ}
use Rattle.state.specs.declared.lent.Lent.{Lent}
use Rattle.framer.specs.declared.Answer.{Answer}
use Rattle.framer.specs.declared.Stepped.{Stepped}
use Rattle.framer.specs.Step.{StepOut}
use Rattle.framer.specs.Answers as answers

pub record Steps (is : StepOut) (r : Stepped) (carry : List ℕ) : Type 0 where
  pub number : answers.number r.answer ≡ answers.number is.result.answer
  pub values : answers.values r.answer ≡ answers.values is.result.answer
  pub state : r.state ≡ is.result.state
  pub bytes : carry ≡ is.carry

-- what is said, the state then and the carry are these; carry and chunk are the same ones
pub record Said (is : StepOut) (old new : Lent) (answer : Answer) : Type 0 where
  pub value : answer ≡ is.result.answer
  pub state : new.state ≡ is.result.state
  pub bytes : new.carry.now ≡ is.carry
  pub chunk : new.chunk.now ≡ old.chunk.now
  pub name : new.carry.ghost_name ≡ old.carry.ghost_name
