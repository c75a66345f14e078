-- A mode's number is one digit.
use Rattle.std.proofs.Common.{◌≡◌, refl, length}
use Rattle.window.specs.declared.Mode.{Mode, TheVariants.{One, Two, Three}}
use Rattle.window.specs.Pick.{pick}
use Rattle.text.specs.Digits.{digits_in, decimal}
use Rattle.ends.specs.Ends.{mode_no}

pub mode_digit : (mode : Mode) → length (decimal (mode_no mode)) ≡ 1
unfolding digits_in pick
mode_digit (One parity) = refl
mode_digit (Two parity) = refl
mode_digit (Three parity) = refl
