-- 02, Ticket 1: the stamp, its refusals, and the last one handed out.
use Rattle.std.specs.Prelude.{ℕ, ◌+◌, ◌-◌, ◌*◌, not, List, length, ltb, Option, None, Some, Result, Ok, Err}
use Rattle.std.specs.Int.{is_negative}
use Rattle.std.specs.Int.RustNames.{unsigned_abs}
use Rattle.window.specs.Pick.{pick}
use Rattle.calendar.specs.Calendar.{day_number, seconds_at}
use Rattle.stamp.specs.declared.Fields.{Fields}
use Rattle.stamp.specs.declared.Fault.{Fault, TheVariants.{NotThisMessage, NotValid, Field}}
use Rattle.stamp.specs.declared.Reading.{Reading, TheVariants.{Stamp, BackBy}}
use Rattle.stamp.specs.declared.Heard.{Heard}
use Rattle.stamp.specs.Message.{is_this, fields_of, is_valid, in_range}

-- whole seconds since 1970
unfoldable pub seconds : Fields → ℕ
seconds f = seconds_at (day_number f.year f.month f.day) f.hour f.minute f.second

-- whole nanoseconds since 1970
unfoldable pub stamp_of : Fields → ℕ
stamp_of f = pick (is_negative f.nano) (seconds f * 1000000000 - unsigned_abs f.nano) (seconds f * 1000000000 + unsigned_abs f.nano)

abbrev pub heard : Result Reading Fault → Option ℕ → Heard
heard reading clock = record { reading = reading; clock = clock }

-- the first stamp is handed out; one below the last is answered as "back by d", and the last one stays
abbrev pub hand : Option ℕ → ℕ → Heard
hand None t = heard (Ok (Stamp t)) (Some t)
hand (Some l) t = pick (ltb t l) (heard (Ok (BackBy (l - t))) (Some l)) (heard (Ok (Stamp t)) (Some t))

-- refusals in this order: not this message, not valid, a field outside its range; the last stamp stays
unfoldable pub read : Option ℕ → ℕ → ℕ → List ℕ → Heard
read clock class id payload =
    pick (not (is_this class id (length payload))) (heard (Err NotThisMessage) clock)
    (pick (not (is_valid (fields_of payload))) (heard (Err NotValid) clock)
    (pick (not (in_range (fields_of payload))) (heard (Err Field) clock)
    (hand clock (stamp_of (fields_of payload)))))

-- what a clock makes of a payload's stamp, or of its refusal
abbrev pub heard_of : Option ℕ → Result ℕ Fault → Heard
heard_of clock (Ok t) = hand clock t
heard_of clock (Err f) = heard (Err f) clock
