-- How a proof goes through a choice by a test.
use mathlib.Core.Path.{◌≡◌, refl}
use mathlib.Core.Bool.{Bool, true, false}
use Rattle.window.specs.Pick.{pick}

-- what holds of each branch, where its test is known, holds of the choice
pub by_pick {ℓ} : {A : Type ℓ} (P : A → Type 0) {b : Bool} {x y : A} → (b ≡ true → P x) → (b ≡ false → P y) → P (pick b x y)
unfolding pick
by_pick P {b = true} f g = f refl
by_pick P {b = false} f g = g refl

pub pick_true {ℓ} : {A : Type ℓ} (x y : A) → pick true x y ≡ x
unfolding pick
pick_true x y = refl

pub pick_false {ℓ} : {A : Type ℓ} (x y : A) → pick false x y ≡ y
unfolding pick
pick_false x y = refl
