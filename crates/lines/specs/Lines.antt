-- 01, "Bench set", the listing program: its answers' lines; and those that 02, Ticket 4, adds.
use Rattle.std.specs.Prelude.{ℕ, ◌-◌, Bool, List, [], ◌++◌}
use Rattle.window.specs.declared.Mode.{Mode}
use Rattle.window.specs.Sync.{has_parity}
use Rattle.claim.specs.Sizes.{around}
use Rattle.framer.specs.declared.Answer.{Answer, TheVariants.{UbxFrame, RtcmFrame, Sentence, WrongSum, NoRoom, NeedMore, Refused, WrongParity}}
use Rattle.text.specs.Labels.{sized, here}
use Rattle.line_parts.specs.Parts.{ubx, wrong, wrong_parity}

-- an answer's line. A frame's len is its n: a UBX frame's body is payload and two check bytes, an RTCM frame has its message and,
-- by the mode's setting, 3 or 6 bytes around it. A sentence's len is all its bytes. Need more and refusals have no line
unfoldable pub line : Bool → Mode → ℕ → Answer → List ℕ
line named mode before (UbxFrame class id p place) = here before p ++ ubx class id (place.len - 2)
line named mode before (RtcmFrame p place) = here before p ++ sized " rtcm len " (place.len - around (has_parity mode))
line named mode before (Sentence p place) = here before p ++ sized " nmea len " place.len
line named mode before (WrongSum class id n p expect got) = here before p ++ wrong named class id n expect got
line named mode before (NoRoom p size) = here before p ++ sized " room " size
line named mode before NeedMore = []
line named mode before (Refused r) = []
line named mode before (WrongParity p expect got) = wrong_parity before p expect got
