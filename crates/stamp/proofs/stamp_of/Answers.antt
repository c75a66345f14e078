-- `stamp::stamp_of` meets its contract: in range, no number is too large.
use native.Mathlib.Omega.{arith}
use Rattle.stamp.proofs.Ranges.{ranged, days_bound}
use Rattle.stamp.proofs.stamp_of.Goals as goal

pub day_number-days-requires : goal.day_number-days-requires
day_number-days-requires c =
    let d = (ranged c.args.f c.requires).date in
    record { le_year = (omega (arith, d.year), omega (arith, d.year)); le_month = d.month; le_day = d.day }

pub seconds_at-whole-requires : goal.seconds_at-whole-requires
seconds_at-whole-requires c = omega (arith, (days_bound c.args.f c.requires).1, (ranged c.args.f c.requires).time)

pub overflow_mul-whole : goal.overflow_mul-whole
overflow_mul-whole c = omega (arith, (days_bound c.args.f c.requires).1, (ranged c.args.f c.requires).time)
