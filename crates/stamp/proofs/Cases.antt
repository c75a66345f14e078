-- The table of readings, computed.
use mathlib.Core.Path.{◌≡◌, refl}
use mathlib.Core.Bool.{true}
use Rattle.window.specs.Pick.{pick}
use Rattle.calendar.specs.Calendar.{leap, days_of_years, day_number}
use Rattle.calendar.specs.Ranges.{within, is_date, is_time}
use Rattle.stamp.specs.Message.{is_this, in_range}
use Rattle.stamp.specs.Stamp.{seconds, stamp_of, read}
use Rattle.stamp.specs.Cases.{every, cases}

pub cases_right : every cases ≡ true
unfolding read pick is_this in_range is_date is_time within leap days_of_years day_number seconds stamp_of
cases_right = refl
