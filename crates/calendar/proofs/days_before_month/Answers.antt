-- `calendar::days_before_month` meets its contract: a leap year's day more fits.
use native.Mathlib.Omega.{arith}
use Prim.Native.Nat.{◌-◌}
use Rattle.calendar.proofs.Calendar.{before_bound, a_day}
use Rattle.calendar.proofs.days_before_month.Goals as goal

pub overflow_add-result : goal.overflow_add-result
overflow_add-result c = omega (arith, before_bound (c.args.month - 1) (omega arith), c.from.ensures, a_day)
