-- Which frames of a stream are read for their time: the good ones that are handed out, and no others.
use Rattle.std.specs.Prelude.{ℕ, drop}
use mathlib.Core.List.{List, Memᴰ as Among}
use Rattle.window.specs.declared.Mode.{Mode}
use Rattle.stream.specs.Scan.{Event, scan, HasScan}
use Rattle.stream.specs.Interface.{GoodFrame, Bytes}
use Rattle.stream.specs.Frames.{hand_out}
use Rattle.stamp.specs.NeverBack.{Payload, frames_in}

-- a good frame that is handed out is read, with the payload that the interface description gives it; where a good frame is handed
-- out, stream's `NoGoodFrameIsLost` says
abbrev pub GoodFramesAreRead : Type 0
GoodFramesAreRead =
    (answers : List Event) (p class id : ℕ) (payload : List ℕ) → Among (hand_out p class id payload) answers
    → Among (record { class = class; id = id; bytes = payload }) (frames_in answers)

-- and what is read is the payload of a good frame, which stands in the stream
abbrev pub OnlyGoodFramesAreRead : Type 0
OnlyGoodFramesAreRead =
    (mode : Mode) (max : ℕ) → HasScan mode → (stream : List ℕ) → Bytes stream → (x : Payload) → Among x (frames_in (scan mode max stream).answers)
    → (p : ℕ) × GoodFrame max (drop p stream) x.class x.id x.bytes
