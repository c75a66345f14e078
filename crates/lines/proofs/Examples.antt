-- Lines as 01 has them, those that 02, Ticket 4, adds, and numbers at their edges, computed from the definitions: one table, and one claim over it.
use mathlib.Core.Path.{◌≡◌, refl}
use Prim.Native.Nat.{ℕ}
use Prim.Native.String.{String}
use mathlib.Core.Bool.{Bool, true, false, ◌&&◌}
use mathlib.Core.List.{List, [], ◌∷◌, ◌++◌}
use Rattle.window.specs.declared.Mode.TheVariants.{One, Two, Three}
use Rattle.window.specs.Pick.{pick}
use Rattle.state.specs.declared.Refusal.TheVariants.{NotOpen}
use Rattle.taking.specs.declared.Side.TheVariants.{Carry}
use Rattle.taking.specs.declared.Place.{Place}
use Rattle.framer.specs.declared.Answer.TheVariants.{UbxFrame, RtcmFrame, Sentence, WrongSum, NoRoom, NeedMore, Refused, WrongParity}
use Rattle.framer.specs.Bench.{same_list}
use Rattle.text.specs.Text.{ascii}
use Rattle.text.specs.Digits.{digits_in, decimal, hex}
use Rattle.ends.specs.Ends.{header, totals}
use Rattle.lines.specs.Lines.{line}

record Row : Type 0 where
  bytes : List ℕ
  text : String

abbrev row : List ℕ → String → Row
row b t = record { bytes = b; text = t }

abbrev place : ℕ → Place
place len = record { side = Carry; start = 6; len = len }

abbrev rows : List Row
rows =
    -- FF then T
    row (header (One false) 240 247 ++ line false (Two false) 0 (UbxFrame 0x0A 0x04 1 (place 2)) ++ totals 9 0 0) "mode 1 max 240 carry 247\nat 1 ubx 0A 04 len 0\nend used 9 kept 0 lost 0\n"
    -- B4
    ∷ row (line false (Two false) 0 (WrongSum 0x0A 0x04 0 0 0x350E 0x340E)) "at 0 sum expect 350E got 340E\n"
    ∷ row (line true (Two false) 0 (WrongSum 0x0A 0x04 0 0 0x350E 0x340E)) "at 0 sum expect 350E got 340E ubx 0A 04 len 0\n"
    ∷ row (line true (Two false) 8 (WrongSum 0x01 0xFF 65535 1 0x0000 0xFFFF)) "at 9 sum expect 0000 got FFFF ubx 01 FF len 65535\n"
    -- every other kind of line, with earlier closes
    ∷ row (header (Three false) 65535 16384) "mode 3 max 65535 carry 16384\n"
    ∷ row (line false (Two false) 16384 (UbxFrame 0x01 0xFF 5 (place 94))) "at 16389 ubx 01 FF len 92\n"
    ∷ row (line false (Two false) 100 (RtcmFrame 0 (place 1026))) "at 100 rtcm len 1023\n"
    ∷ row (line false (Two false) 9 (Sentence 1 (place 82))) "at 10 nmea len 82\n"
    ∷ row (line false (Two false) 0 (NoRoom 7 65537)) "at 7 room 65537\n"
    ∷ row (line false (Two false) 9 NeedMore) ""
    ∷ row (line false (Two false) 9 (Refused NotOpen)) ""
    -- with parity: the setting, a frame of n + 6 bytes, and a wrong parity
    ∷ row (header (Two true) 240 1029) "mode 2 parity max 240 carry 1029\n"
    ∷ row (header (One true) 0 6 ++ header (Three true) 65535 16384) "mode 1 parity max 0 carry 6\nmode 3 parity max 65535 carry 16384\n"
    ∷ row (line false (Two true) 100 (RtcmFrame 0 (place 1029))) "at 100 rtcm len 1023\n"
    ∷ row (line true (Three true) 16384 (WrongParity 6 0xA8F72B 0xA8F72A)) "at 16390 parity expect A8F72B got A8F72A\n"
    ∷ row (line false (Two true) 0 (WrongParity 0 0x00000F 0xFFFFFF)) "at 0 parity expect 00000F got FFFFFF\n"
    -- numbers
    ∷ row (decimal 0) "0"
    ∷ row (decimal 10) "10"
    ∷ row (decimal 9999999999) "9999999999"
    ∷ row (decimal 18446744073709551615) "18446744073709551615"
    ∷ row (line false (Two false) 18446744073709551615 (NoRoom 2 3)) "at 1 room 3\n"
    ∷ row (hex 2 0x9A ++ hex 4 0xBCDE ++ hex 4 0x00F0) "9ABCDE00F0"
    ∷ []

abbrev every : List Row → Bool
every [] = true
every (r ∷ rs) = same_list r.bytes (ascii r.text) && every rs

rows_hold : every rows ≡ true
unfolding digits_in hex pick line
rows_hold = refl
