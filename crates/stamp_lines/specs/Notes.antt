-- What a step brought the program `stamps`: a note of its answer, and the counts with it.
use Rattle.std.specs.Prelude.{ℕ, ◌+◌, ◌%◌, ◌^◌, Bool, true, false, ◌&&◌, ◌==◌, Option, None, Some, Result, Ok, Err}
use Rattle.window.specs.Pick.{pick}
use Rattle.framer.specs.declared.Answer.{Answer, TheVariants.{UbxFrame, RtcmFrame, Sentence, WrongSum, NoRoom, NeedMore, Refused as AnswerRefused, WrongParity}}
use Rattle.stamp.specs.declared.Fault.{Fault}
use Rattle.stamp.specs.declared.Reading.{Reading, TheVariants.{Stamp, BackBy}}
use Rattle.stamp_lines.specs.declared.Note.{Note, TheVariants.{Time, Other, Sum, Passed, End}}
use Rattle.stamp_lines.specs.declared.Tally.{Tally}

-- a frame of class 01 and id 21, whatever its length, is a time frame. A step tells the reading of every UBX frame; one without
-- would count with the others
abbrev pub is_time : ℕ → ℕ → Bool
is_time class id = class == 0x01 && id == 0x21

unfoldable pub frame : ℕ → ℕ → ℕ → Option (Result Reading Fault) → Note
frame class id p None = Other
frame class id p (Some reading) = pick (is_time class id) (Time p reading) Other

abbrev pub noted : Answer → Option (Result Reading Fault) → Note
noted (UbxFrame class id p place) told = frame class id p told
noted (RtcmFrame p place) told = Passed
noted (Sentence p place) told = Passed
noted (WrongSum class id n p expect got) told = Sum
noted (NoRoom p size) told = Passed
noted NeedMore told = End
noted (AnswerRefused r) told = End
noted (WrongParity p expect got) told = Passed

abbrev pub goes_on : Note → Bool
goes_on (Time p reading) = true
goes_on Other = true
goes_on Sum = true
goes_on Passed = true
goes_on End = false

-- counted in 64 bits
abbrev pub one_more : ℕ → ℕ
one_more n = (n + 1) % 2 ^ 64

abbrev pub tally_of : ℕ → ℕ → ℕ → ℕ → ℕ → Tally
tally_of stamps back refused other sums = record { stamps = stamps; back = back; refused = refused; other = other; sums = sums }

abbrev pub by_reading : Tally → Result Reading Fault → Tally
by_reading t (Ok (Stamp n)) = tally_of (one_more t.stamps) t.back t.refused t.other t.sums
by_reading t (Ok (BackBy d)) = tally_of t.stamps (one_more t.back) t.refused t.other t.sums
by_reading t (Err f) = tally_of t.stamps t.back (one_more t.refused) t.other t.sums

abbrev pub tallied : Tally → Note → Tally
tallied t (Time p reading) = by_reading t reading
tallied t Other = tally_of t.stamps t.back t.refused (one_more t.other) t.sums
tallied t Sum = tally_of t.stamps t.back t.refused t.other (one_more t.sums)
tallied t Passed = t
tallied t End = t
