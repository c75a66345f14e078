-- What the comparison promises: that nothing differs is said exactly where all is equal.
use Rattle.std.specs.Prelude.{◌≡◌, List, Result, Ok, ⊤}
use Rattle.compare.specs.declared.Difference.{Difference}

-- of two lists
pub record Tells {A : Type 0} (r : Result ⊤ Difference) (got recorded : List A) : Type 0 where
  pub sound : r ≡ Ok tt → got ≡ recorded
  pub whole : got ≡ recorded → r ≡ Ok tt

-- of two outcomes
pub record Both (r one other : Result ⊤ Difference) : Type 0 where
  pub sound : r ≡ Ok tt → (one ≡ Ok tt) × (other ≡ Ok tt)
  pub whole : one ≡ Ok tt → other ≡ Ok tt → r ≡ Ok tt
