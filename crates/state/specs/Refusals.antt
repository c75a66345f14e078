-- 01, "Sizes" and "Refusal numbers".
use Rattle.std.specs.Prelude.{ℕ, ◌+◌, Bool, true, false, not, ◌&&◌, List, [], ◌∷◌, ltb, eqb, Result, Ok, Err, ⊤}
use Rattle.window.specs.Pick.{pick}
use Rattle.state.specs.declared.State.{State}
use Rattle.state.specs.declared.Refusal.{Refusal, TheVariants.{CarryTooBig, BadState, AlreadyOpen, NotOpen, ChunkTooLong, OtherChunk, BadPlace}}
use Rattle.state.specs.Words.{width}

-- the table's numbers; a call that is not refused has 0
abbrev pub refusal_no : Refusal → ℕ
refusal_no CarryTooBig = 1
refusal_no BadState = 2
refusal_no AlreadyOpen = 3
refusal_no NotOpen = 4
refusal_no ChunkTooLong = 5
refusal_no OtherChunk = 6
refusal_no BadPlace = 7

abbrev pub leave_no : Result ⊤ Refusal → ℕ
leave_no (Ok tt) = 0
leave_no (Err r) = refusal_no r

-- one of the tests passes
abbrev pub any_of : List Bool → Bool
any_of [] = false
any_of (b ∷ bs) = pick b true (any_of bs)

-- an idle state with off, used or a chunk length not 0
abbrev pub idle_bad : State → Bool
idle_bad s = not s.«open» && any_of (ltb 0 s.off ∷ ltb 0 s.used ∷ ltb 0 s.chunk ∷ [])

-- 2, bad state, in the table's order
abbrev pub faults : State → ℕ → List Bool
faults s carryLen =
    not (eqb carryLen s.cap)
    ∷ ltb 16384 s.cap
    ∷ ltb s.cap s.live
    ∷ ltb s.live s.off
    ∷ ltb s.chunk s.part
    ∷ ltb 16384 s.chunk
    ∷ ltb 32768 (s.used + width s)
    ∷ idle_bad s
    ∷ []

unfoldable pub is_bad : State → ℕ → Bool
is_bad s carryLen = any_of (faults s carryLen)

-- opening: 2, then 3, then 5
unfoldable pub may_open : State → ℕ → ℕ → Result ⊤ Refusal
may_open s carryLen chunkLen =
    pick (is_bad s carryLen) (Err BadState)
    (pick s.«open» (Err AlreadyOpen)
    (pick (ltb 16384 chunkLen) (Err ChunkTooLong)
    (Ok tt)))

-- stepping and closing: 2, then 4, then 6
unfoldable pub may_use : State → ℕ → ℕ → Result ⊤ Refusal
may_use s carryLen chunkLen =
    pick (is_bad s carryLen) (Err BadState)
    (pick (not s.«open») (Err NotOpen)
    (pick (not (eqb chunkLen s.chunk)) (Err OtherChunk)
    (Ok tt)))
