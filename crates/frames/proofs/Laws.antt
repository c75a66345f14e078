-- Reading a number digit by digit, and what the words say, computed on examples.
use mathlib.Core.Path.{◌≡◌, refl}
use Prim.Native.Nat.{ℕ, ◌+◌, ◌≤◌, ◌<◌}
use native.Mathlib.Numerals.{add-one}
use mathlib.Core.Bool.{true, false}
use mathlib.Core.List.{List, [], ◌∷◌}
use lib.ListN.{length, drop, get_or, drop_of_length-le}
use lib.Seq.{drop-cons}
use Rattle.std.specs.Prelude.{Some, None}
use Rattle.window.specs.declared.Mode.TheVariants.{One, Two, Three}
use Rattle.window.specs.Pick.{pick}
use Rattle.text.specs.Text.{ascii}
use Rattle.frames.specs.Words.{next_of, digits_to, number_of, mode_of}

pub none_stays : (ds : List ℕ) → digits_to None ds ≡ None
none_stays [] = refl
none_stays (d ∷ ds) = none_stays ds

pub one_more : (s : List ℕ) (n i : ℕ) → i < length s → digits_to (Some n) (drop i s) ≡ digits_to (next_of n (get_or s i 0)) (drop (i + 1) s)
one_more s n i h = rw (add-one, drop-cons s i 0)

pub at_end : (s : List ℕ) (n i : ℕ) → length s ≤ i → digits_to (Some n) (drop i s) ≡ Some n
at_end s n i h = rw (drop_of_length-le s {i = i} h)

largest : number_of (ascii "65535") ≡ Some 65535
unfolding next_of pick
largest = refl

over : number_of (ascii "65536") ≡ None
unfolding next_of pick
over = refl

letter : number_of (ascii "24O") ≡ None
unfolding next_of pick
letter = refl

third : mode_of (number_of (ascii "3")) false ≡ Some (Three false)
unfolding next_of pick
third = refl

first_with_parity : mode_of (number_of (ascii "1")) true ≡ Some (One true)
unfolding next_of pick
first_with_parity = refl

second_with_parity : mode_of (number_of (ascii "2")) true ≡ Some (Two true)
unfolding next_of pick
second_with_parity = refl

fourth : mode_of (number_of (ascii "4")) true ≡ None
unfolding next_of pick
fourth = refl
