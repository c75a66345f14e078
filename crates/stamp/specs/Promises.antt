-- What the operations promise, as equalities with the definitions: an answer by its number and values, the clock, the next state,
-- and every byte of the carry.
use Rattle.std.specs.Prelude.{◌≡◌, ℕ, List, [], ◌∷◌, Option, None, Some, Result, Ok, Err}
use Rattle.framer.specs.Answers as answers
use Rattle.stamp.specs.declared.Fault.{Fault, TheVariants.{NotThisMessage, NotValid, Field}}
use Rattle.stamp.specs.declared.Reading.{Reading, TheVariants.{Stamp, BackBy}}
use Rattle.stamp.specs.declared.Heard.{Heard}
use Rattle.stamp.specs.declared.Timed.{Timed}
use Rattle.stamp.specs.Step.{TimedOut}

-- 02's order
abbrev pub fault_no : Fault → ℕ
fault_no NotThisMessage = 1
fault_no NotValid = 2
fault_no Field = 3

abbrev pub number : Result Reading Fault → ℕ
number (Ok (Stamp t)) = 1
number (Ok (BackBy d)) = 2
number (Err f) = 3

abbrev pub values : Result Reading Fault → List ℕ
values (Ok (Stamp t)) = t ∷ []
values (Ok (BackBy d)) = d ∷ []
values (Err f) = fault_no f ∷ []

-- nothing told has 0
abbrev pub told_number : Option (Result Reading Fault) → ℕ
told_number None = 0
told_number (Some r) = number r

abbrev pub told_values : Option (Result Reading Fault) → List ℕ
told_values None = []
told_values (Some r) = values r

pub record Reads (is r : Heard) : Type 0 where
  pub number : number r.reading ≡ number is.reading
  pub values : values r.reading ≡ values is.reading
  pub clock : r.clock ≡ is.clock

pub record Times (is : TimedOut) (r : Timed) (carry : List ℕ) : Type 0 where
  pub number : answers.number r.answer ≡ answers.number is.result.answer
  pub values : answers.values r.answer ≡ answers.values is.result.answer
  pub told_number : told_number r.told ≡ told_number is.result.told
  pub told_values : told_values r.told ≡ told_values is.result.told
  pub clock : r.clock ≡ is.result.clock
  pub state : r.state ≡ is.result.state
  pub bytes : carry ≡ is.carry
