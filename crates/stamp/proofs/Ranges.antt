-- What the tests of a payload show.
use mathlib.Core.Path.{◌≡◌}
use mathlib.Core.Bool.{true}
use Prim.Native.Nat.{ℕ, ◌≤◌, ◌<◌}
use borrow.Author.Tests.{eqb-true}
use native.Mathlib.Omega.{arith}
use Rattle.std.specs.Int.RustNames.{unsigned_abs}
use Rattle.std.proofs.lemmas.Bool.{and_parts}
use Rattle.std.proofs.lemmas.Bool.Decides.{nat_tests}
use Rattle.std.proofs.lemmas.Int.{ints}
use Rattle.window.specs.Pick.{pick}
use Rattle.calendar.specs.Calendar.{day_number}
use Rattle.calendar.proofs.Ranges.{is_within, Dated, dated, Clocked, clocked, day_bound}
use Rattle.stamp.specs.declared.Fields.{Fields}
use Rattle.stamp.specs.Message.{is_this, in_range, SignedBits}

pub this_length : (class id len : ℕ) → is_this class id len ≡ true → len ≡ 20
unfolding is_this
this_length class id len e = eqb-true len 20 (and_parts _ _ (and_parts _ _ e).1).1

pub record Ranged (f : Fields) : Type 0 where
  pub date : Dated f.year f.month f.day
  pub time : Clocked f.hour f.minute f.second
  pub nano : unsigned_abs f.nano ≤ 1000000000

pub ranged : (f : Fields) → in_range f ≡ true → Ranged f
unfolding in_range
ranged f e =
    let p = and_parts _ _ e in
    let q = and_parts _ _ p.1 in
    record { date = dated f.year f.month f.day p.0; time = clocked f.hour f.minute f.second q.0; nano = (is_within 0 1000000000 _ q.1).1 }

pub days_bound : (f : Fields) → in_range f ≡ true → (10000 ≤ day_number f.year f.month f.day) × (day_number f.year f.month f.day < 65536)
days_bound f e = day_bound f.year f.month f.day (ranged f e).date

pub signed_bits : SignedBits
unfolding pick
signed_bits n h = (grind (arith, ints, nat_tests), grind (arith, ints, nat_tests))
