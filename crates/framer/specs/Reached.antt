-- 01, "a state reached from opening".
use Rattle.std.specs.Prelude.{◌≡◌, ℕ, Bool, true, false, List, eqb, Result, Ok, Err, ⊤}
use Rattle.state.specs.declared.Refusal.{Refusal}
use Rattle.state.specs.declared.State.{State}
use Rattle.framer.specs.declared.Answer.{Answer}
use Rattle.opening.specs.Operations.{opening}
use Rattle.framer.specs.Step.{step}
use Rattle.framer.specs.Answers.{number}

abbrev pub is_denied : Result ⊤ Refusal → Bool
is_denied (Ok tt) = false
is_denied (Err r) = true

abbrev pub is_refused : Answer → Bool
is_refused a = eqb (number a) 7

abbrev pub is_need_more : Answer → Bool
is_need_more a = eqb (number a) 6

-- with this chunk, from an opening with so many live bytes, by steps that were not refused
pub data Reached (chunk : List ℕ) : ℕ → State → List ℕ → Type 0 where
  by_opening : (s : State) (carry : List ℕ) → is_denied (opening s carry chunk).leave ≡ false → Reached chunk s.live (opening s carry chunk).state carry
  by_step : (s : State) (carry : List ℕ) {live : ℕ} → Reached chunk live s carry → is_refused (step s carry chunk).result.answer ≡ false
      → Reached chunk live (step s carry chunk).result.state (step s carry chunk).carry
