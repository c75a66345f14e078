-- 01, "One step", and 02, Ticket 4: the lengths of a frame that a head claims.
use Rattle.std.specs.Prelude.{ℕ, ◌+◌, Bool, true, false}
use Rattle.claim.specs.declared.Kind.{Kind, TheVariants.{Ubx, Rtcm, Sentence}}

-- what an RTCM frame has around its message: the three bytes of its head and, with parity, three behind
abbrev pub around : Bool → ℕ
around true = 6
around false = 3

-- what is drained before a frame's body, the body's length, and what is drained where there is no room for it
abbrev pub skip : Kind → ℕ
skip (Ubx class id n) = 6
skip (Rtcm n parity) = 0
skip (Sentence i) = 0

abbrev pub size : Kind → ℕ
size (Ubx class id n) = n + 2
size (Rtcm n parity) = n + around parity
size (Sentence i) = i + 2

abbrev pub back : Kind → ℕ
back (Ubx class id n) = 2
back (Rtcm n parity) = 1
back (Sentence i) = 1
