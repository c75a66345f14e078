-- 02, Ticket 1: NAV-TIMEUTC, as it lays the fields out. All are little-endian.
use Rattle.std.specs.Prelude.{◌≡◌, ℕ, ◌+◌, ◌-◌, ◌*◌, ◌/◌, ◌%◌, ◌<◌, Bool, ◌&&◌, List, get_or, leb, eqb}
use Rattle.std.specs.Int.{w32, cast_signed, is_negative}
use Rattle.std.specs.Int.RustNames.{unsigned_abs}
use Rattle.sum.specs.Sum.{pair_of}
use Rattle.window.specs.Pick.{pick}
use Rattle.calendar.specs.Ranges.{within, is_date, is_time}
use Rattle.stamp.specs.declared.Fields.{Fields}

-- class 01, id 21, 20 payload bytes
unfoldable pub is_this : ℕ → ℕ → ℕ → Bool
is_this class id len = eqb class 0x01 && (eqb id 0x21 && eqb len 20)

abbrev pub byte : List ℕ → ℕ → ℕ
byte payload i = get_or payload i 0

abbrev pub word : List ℕ → ℕ → ℕ
word payload i = pair_of (byte payload i) (byte payload (i + 1))

abbrev pub long : List ℕ → ℕ → ℕ
long payload i = word payload i + 65536 * word payload (i + 2)

-- 32 bits, signed (two's complement): from 2^31 on it is below zero, by what is left to 2^32; else it is what it is
abbrev pub is_minus : ℕ → Bool
is_minus n = leb 0x80000000 n

abbrev pub distance : ℕ → ℕ
distance n = pick (is_minus n) (0x100000000 - n) n

-- that is the number which `cast_signed` makes of 32 bits: its sign, and how far it is from zero
abbrev pub SignedBits : Type 0
SignedBits = (n : ℕ) → n < 0x100000000 → (is_negative (cast_signed w32 n) ≡ is_minus n) × (unsigned_abs (cast_signed w32 n) ≡ distance n)

-- signed nanoseconds at 8, year at 12, month, day, hour, minute, second, flags at 19
abbrev pub fields_of : List ℕ → Fields
fields_of payload = record {
  nano = cast_signed w32 (long payload 8);
  year = word payload 12;
  month = byte payload 14;
  day = byte payload 15;
  hour = byte payload 16;
  minute = byte payload 17;
  second = byte payload 18;
  flags = byte payload 19;
}

-- bit 2 means UTC valid
abbrev pub is_valid : Fields → Bool
is_valid f = eqb (f.flags / 4 % 2) 1

-- a date and a time in range, and nanoseconds within one thousand million either way
unfoldable pub in_range : Fields → Bool
in_range f =
    is_date f.year f.month f.day
    && (is_time f.hour f.minute f.second
    && within 0 1000000000 (unsigned_abs f.nano))
