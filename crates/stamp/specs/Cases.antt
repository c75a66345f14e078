-- Readings worked out elsewhere, as one table.
use Rattle.std.specs.Prelude.{ℕ, ◌/◌, ◌%◌, Bool, true, ◌&&◌, List, [], ◌∷◌, ◌++◌, take, eqb, Option, None, Some}
use Rattle.framer.specs.Bench.{same_list}
use Rattle.stamp.specs.Stamp.{read}
use Rattle.stamp.specs.Promises.{number, values}

-- a NAV-TIMEUTC payload: time of week and accuracy, which are not read, then nanoseconds (two's complement) to flags
abbrev pub bytes4 : ℕ → List ℕ
bytes4 n = n % 256 ∷ n / 256 % 256 ∷ n / 65536 % 256 ∷ n / 16777216 ∷ []

abbrev pub utc : ℕ → ℕ → ℕ → ℕ → ℕ → ℕ → ℕ → ℕ → List ℕ
utc nano year month day hour minute second flags =
    bytes4 0xFFFFFFFF ++ bytes4 0xFFFFFFFF ++ bytes4 nano ++ (year % 256 ∷ year / 256 ∷ month ∷ day ∷ hour ∷ minute ∷ second ∷ flags ∷ [])

abbrev pub clock_values : Option ℕ → List ℕ
clock_values None = []
clock_values (Some t) = t ∷ []

-- the clock, a frame's class, id and payload; the reading's number and value, and the clock then
pub record Case : Type 0 where
  pub clock : Option ℕ
  pub class : ℕ
  pub id : ℕ
  pub payload : List ℕ
  pub number : ℕ
  pub value : ℕ
  pub after : Option ℕ

abbrev pub case : Option ℕ → ℕ → ℕ → List ℕ → ℕ → ℕ → Option ℕ → Case
case clock class id payload number value after =
    record { clock = clock; class = class; id = id; payload = payload; number = number; value = value; after = after }

abbrev pub right : Case → Bool
right c =
    let h = read c.clock c.class c.id c.payload in
    eqb (number h.reading) c.number && (same_list (values h.reading) (c.value ∷ []) && same_list (clock_values h.clock) (clock_values c.after))

abbrev pub every : List Case → Bool
every [] = true
every (c ∷ cs) = right c && every cs

-- a stamp has the number 1, back by 2, a refusal 3
abbrev pub cases : List Case
cases =
    -- the first stamp is handed out, and one equal to the last
    case None 0x01 0x21 (utc 0x075BCD15 2026 11 15 18 47 37 0x07) 1 1794768457123456789 (Some 1794768457123456789)
    ∷ case (Some 1794768457123456789) 0x01 0x21 (utc 0x075BCD15 2026 11 15 18 47 37 0x07) 1 1794768457123456789 (Some 1794768457123456789)
    -- one nanosecond below the last; a forged clock
    ∷ case (Some 1794768457123456790) 0x01 0x21 (utc 0x075BCD15 2026 11 15 18 47 37 0x07) 2 1 (Some 1794768457123456790)
    ∷ case (Some 18446744073709551615) 0x01 0x21 (utc 0x075BCD15 2026 11 15 18 47 37 0x07) 2 16651975616586094826 (Some 18446744073709551615)
    -- nanoseconds below zero, back into 29 February 2000
    ∷ case None 0x01 0x21 (utc 0xC4653601 2000 3 1 0 0 0 0x07) 1 951868799000000001 (Some 951868799000000001)
    -- second 60 is the next minute's 0, here 2017's first
    ∷ case None 0x01 0x21 (utc 0x00000000 2016 12 31 23 59 60 0x07) 1 1483228800000000000 (Some 1483228800000000000)
    -- as a receiver sent it
    ∷ case None 0x01 0x21 (utc 0xFFFE0CF1 2019 4 22 21 19 20 0x37) 1 1555967959999872241 (Some 1555967959999872241)
    -- the least and the greatest stamp
    ∷ case None 0x01 0x21 (utc 0xC4653600 1999 1 1 0 0 0 0x07) 1 915148799000000000 (Some 915148799000000000)
    ∷ case None 0x01 0x21 (utc 0x3B9ACA00 2099 12 31 23 59 60 0x07) 1 4102444801000000000 (Some 4102444801000000000)
    -- where all is wrong, the class is told first, the id, the length; then that it is not valid
    ∷ case (Some 5) 0x0A 0x21 (utc 0x3B9ACA01 2100 13 32 24 60 61 0x00) 3 1 (Some 5)
    ∷ case (Some 5) 0x01 0x20 (utc 0x3B9ACA01 2100 13 32 24 60 61 0x00) 3 1 (Some 5)
    ∷ case (Some 5) 0x01 0x21 (take 19 (utc 0x3B9ACA01 2100 13 32 24 60 61 0x00)) 3 1 (Some 5)
    ∷ case (Some 5) 0x01 0x21 (0 ∷ utc 0x3B9ACA01 2100 13 32 24 60 61 0x00) 3 1 (Some 5)
    ∷ case (Some 5) 0x01 0x21 (utc 0x3B9ACA01 2100 13 32 24 60 61 0x00) 3 2 (Some 5)
    -- by bit 2 alone
    ∷ case (Some 5) 0x01 0x21 (utc 0x075BCD15 2026 11 15 18 47 37 0xFB) 3 2 (Some 5)
    ∷ case (Some 5) 0x01 0x21 (utc 0x075BCD15 2026 11 15 18 47 37 0x04) 1 1794768457123456789 (Some 1794768457123456789)
    -- a field outside its range: the year
    ∷ case (Some 5) 0x01 0x21 (utc 0x00000000 1998 12 31 0 0 0 0x07) 3 3 (Some 5)
    ∷ case (Some 5) 0x01 0x21 (utc 0x00000000 2100 1 1 0 0 0 0x07) 3 3 (Some 5)
    -- the date
    ∷ case (Some 5) 0x01 0x21 (utc 0x00000000 2026 0 1 0 0 0 0x07) 3 3 (Some 5)
    ∷ case (Some 5) 0x01 0x21 (utc 0x00000000 2026 13 1 0 0 0 0x07) 3 3 (Some 5)
    ∷ case (Some 5) 0x01 0x21 (utc 0x00000000 2026 1 0 0 0 0 0x07) 3 3 (Some 5)
    ∷ case (Some 5) 0x01 0x21 (utc 0x00000000 2026 2 29 0 0 0 0x07) 3 3 (Some 5)
    ∷ case (Some 5) 0x01 0x21 (utc 0x00000000 2026 4 31 0 0 0 0x07) 3 3 (Some 5)
    -- the time
    ∷ case (Some 5) 0x01 0x21 (utc 0x00000000 2026 1 1 24 0 0 0x07) 3 3 (Some 5)
    ∷ case (Some 5) 0x01 0x21 (utc 0x00000000 2026 1 1 0 60 0 0x07) 3 3 (Some 5)
    ∷ case (Some 5) 0x01 0x21 (utc 0x00000000 2026 1 1 0 0 61 0x07) 3 3 (Some 5)
    -- the nanoseconds, either way
    ∷ case (Some 5) 0x01 0x21 (utc 0x3B9ACA01 2026 1 1 0 0 0 0x07) 3 3 (Some 5)
    ∷ case (Some 5) 0x01 0x21 (utc 0xC46535FF 2026 1 1 0 0 0 0x07) 3 3 (Some 5)
    ∷ case (Some 5) 0x01 0x21 (utc 0x80000000 2026 1 1 0 0 0 0x07) 3 3 (Some 5)
    ∷ []
