-- 01, "One step", rules 1 to 4, and 02, Ticket 4: what stands at the front of a window. It goes by the window's bytes alone.
use Rattle.std.specs.Prelude.{ℕ, ◌+◌, ◌*◌, ◌%◌, Bool, not, List, [], ◌∷◌, Option, Some, None, length, get_or, drop, ltb, eqb}
use Rattle.sum.specs.Sum.{pair_of}
use Rattle.window.specs.declared.Mode.{Mode}
use Rattle.window.specs.Pick.{pick}
use Rattle.window.specs.Sync.{has_parity, is_sync, first_sync}
use Rattle.window.specs.EndMark.{end_mark}
use Rattle.claim.specs.declared.Kind.{Kind, TheVariants.{Ubx, Rtcm, Sentence}}
use Rattle.look.specs.declared.Why.{Why, TheVariants.{NoSync, NotPair, OverMax}}

-- how many bytes are passed, by why: the front byte is no sync byte; the second byte is not 62; n is over MAX
abbrev pub far : Why → ℕ
far NoSync = 1
far NotPair = 1
far OverMax = 2

pub data Look : Type 0 where
  -- drain k, need more
  need : ℕ → Look
  -- drain what is passed, repeat
  pass : Why → Look
  -- a frame is claimed: the hand-out test decides
  claim : Kind → Look

-- rule 2, at B5
unfoldable pub look_ubx : ℕ → List ℕ → Look
look_ubx max W =
    let n = pair_of (get_or W 4 0) (get_or W 5 0) in
    pick (ltb (length W) 2) (need 0)
    (pick (not (eqb (get_or W 1 0) 0x62)) (pass NotPair)
    (pick (ltb (length W) 6) (need 0)
    (pick (ltb max n) (pass OverMax)
    (claim (Ubx (get_or W 2 0) (get_or W 3 0) n)))))

-- rule 3, at D3: n is the low 10 bits of bytes 1 and 2, big-endian
unfoldable pub look_rtcm : Bool → List ℕ → Look
look_rtcm parity W =
    pick (ltb (length W) 3) (need 0)
    (claim (Rtcm ((256 * get_or W 1 0 + get_or W 2 0) % 1024) parity))

-- rule 4, at 24, by the end mark found: where there is none, a sync byte at 1 or later drains 1, and over 82 bytes drain all
abbrev pub end_at : Mode → List ℕ → Option ℕ → Look
end_at mode W (Some i) = claim (Sentence i)
end_at mode W None =
    pick (ltb (1 + first_sync mode (drop 1 W)) (length W)) (need 1)
    (pick (ltb 82 (length W)) (need (length W))
    (need 0))

unfoldable pub look_nmea : Mode → List ℕ → Look
look_nmea mode W = pick (ltb (length W) 8) (need 0) (end_at mode W (end_mark 0 W))

-- the rule that the front byte b calls for
abbrev pub at_sync : Mode → ℕ → ℕ → List ℕ → Look
at_sync mode max b W =
    pick (eqb b 0xB5) (look_ubx max W)
    (pick (eqb b 0xD3) (look_rtcm (has_parity mode) W)
    (look_nmea mode W))

-- an empty window needs more; rule 1: a front byte that is no sync byte is passed
unfoldable pub look : Mode → ℕ → List ℕ → Look
look mode max [] = need 0
look mode max (b ∷ bs) = pick (is_sync mode b) (at_sync mode max b (b ∷ bs)) (pass NoSync)
