-- 01, "Bench set" and "Errors a porter is likely to make", and 02, Ticket 4, each as one table of calls and what they answer.
use Rattle.std.specs.Prelude.{ℕ, Bool, true, false, ◌&&◌, List, [], ◌∷◌, ◌++◌, take, replicate, eqb}
use Rattle.window.specs.declared.Mode.{Mode, TheVariants.{One, Two, Three}}
use Rattle.state.specs.declared.State.{State}
use Rattle.state.specs.Refusals.{leave_no}
use Rattle.opening.specs.Operations.{start, opening, closing}
use Rattle.framer.specs.Step.{step}
use Rattle.framer.specs.Answers.{number, values}

-- a call of a script: an opening with a chunk; a step or a close with the opened chunk; a look at the carry's bytes
pub data Call : Type 0 where
  opens : List ℕ → Call
  steps : Call
  closes : Call
  shows : Call

-- what the calls answer, in turn: an opening its refusal; a step its answer's number and values; a close its refusal, used,
-- kept and lost; a look the bytes
abbrev pub play : List Call → State → List ℕ → List ℕ → List (List ℕ)
play [] s carry chunk = []
play (opens c ∷ cs) s carry chunk =
    let r = opening s carry c in
    (leave_no r.leave ∷ []) ∷ play cs r.state carry c
play (steps ∷ cs) s carry chunk =
    let r = step s carry chunk in
    (number r.result.answer ∷ values r.result.answer) ∷ play cs r.result.state r.carry chunk
play (closes ∷ cs) s carry chunk =
    let r = closing s carry chunk in
    (leave_no r.result.leave ∷ r.result.used ∷ r.result.kept ∷ r.result.lost ∷ []) ∷ play cs r.result.state r.carry chunk
play (shows ∷ cs) s carry chunk = carry ∷ play cs s carry chunk

pub record Row : Type 0 where
  pub mode : Mode
  pub max : ℕ
  pub cap : ℕ
  pub calls : List Call
  pub answers : List (List ℕ)

abbrev pub same_list : List ℕ → List ℕ → Bool
same_list [] [] = true
same_list [] (y ∷ ys) = false
same_list (x ∷ xs) [] = false
same_list (x ∷ xs) (y ∷ ys) = eqb x y && same_list xs ys

abbrev pub same_lists : List (List ℕ) → List (List ℕ) → Bool
same_lists [] [] = true
same_lists [] (y ∷ ys) = false
same_lists (x ∷ xs) [] = false
same_lists (x ∷ xs) (y ∷ ys) = same_list x y && same_lists xs ys

abbrev pub right : Row → Bool
right r = same_lists (play r.calls (start r.mode r.max r.cap).state (replicate r.cap 0) []) r.answers

abbrev pub every : List Row → Bool
every [] = true
every (r ∷ rs) = right r && every rs

abbrev pub frame_t : List ℕ
frame_t = 0xB5 ∷ 0x62 ∷ 0x0A ∷ 0x04 ∷ 0x00 ∷ 0x00 ∷ 0x0E ∷ 0x34 ∷ []

abbrev pub frame_u : List ℕ
frame_u = 0xB5 ∷ 0x62 ∷ 0x01 ∷ 0x02 ∷ 0x01 ∷ 0x00 ∷ 0xAA ∷ 0xAE ∷ 0xBA ∷ []

-- an opening that is granted, need more, and what a close reports. A UBX frame is 1, position, class, id, side (0 carry, 1 chunk), start, length
abbrev pub ok : List ℕ
ok = 0 ∷ []

abbrev pub more : List ℕ
more = 6 ∷ []

abbrev pub closed : ℕ → ℕ → ℕ → List ℕ
closed used kept lost = 0 ∷ used ∷ kept ∷ lost ∷ []

abbrev pub row_of : Bool → (Bool → Mode) → ℕ → ℕ → List Call → List (List ℕ) → Row
row_of parity mode x c ks es = record { mode = mode parity; max = x; cap = c; calls = ks; answers = es }

-- in the crate's reading, and with parity
abbrev pub row : (Bool → Mode) → ℕ → ℕ → List Call → List (List ℕ) → Row
row = row_of false

abbrev pub checked : (Bool → Mode) → ℕ → ℕ → List Call → List (List ℕ) → Row
checked = row_of true

-- T is B5 62 0A 04 00 00 0E 34; MAX 16, C 23, mode one unless said
abbrev pub bench_set : List Row
bench_set =
    -- B1 empty chunk: need more; close 0, 0, 0
    row One 16 23 (opens [] ∷ steps ∷ closes ∷ []) (ok ∷ more ∷ closed 0 0 0 ∷ [])
    -- B2 T: class 0A, id 04, position 0, chunk, start 6, length 2
    ∷ row One 16 23 (opens frame_t ∷ steps ∷ []) (ok ∷ (1 ∷ 0 ∷ 0x0A ∷ 0x04 ∷ 1 ∷ 6 ∷ 2 ∷ []) ∷ [])
    -- B3 T cut after 7: need more, kept 7; then frame in carry, start 6, length 2
    ∷ row One 16 23 (opens (take 7 frame_t) ∷ steps ∷ closes ∷ opens (0x34 ∷ []) ∷ steps ∷ []) (ok ∷ more ∷ closed 0 7 0 ∷ ok ∷ (1 ∷ 0 ∷ 0x0A ∷ 0x04 ∷ 0 ∷ 6 ∷ 2 ∷ []) ∷ [])
    -- B4 T with last byte 35: expect 0x350E, got 0x340E; then need more
    ∷ row One 16 23 (opens (take 7 frame_t ++ 0x35 ∷ []) ∷ steps ∷ steps ∷ []) (ok ∷ (4 ∷ 0 ∷ 0x350E ∷ 0x340E ∷ 0x0A ∷ 0x04 ∷ 0 ∷ []) ∷ more ∷ [])
    -- B5 byte B5, then T: frame at 1
    ∷ row One 16 23 (opens (0xB5 ∷ frame_t) ∷ steps ∷ []) (ok ∷ (1 ∷ 1 ∷ 0x0A ∷ 0x04 ∷ 1 ∷ 7 ∷ 2 ∷ []) ∷ [])
    -- B6 B5 62 01 02 11 00, then T: only a frame at 6
    ∷ row One 16 23 (opens (0xB5 ∷ 0x62 ∷ 0x01 ∷ 0x02 ∷ 0x11 ∷ 0x00 ∷ frame_t) ∷ steps ∷ steps ∷ []) (ok ∷ (1 ∷ 6 ∷ 0x0A ∷ 0x04 ∷ 1 ∷ 12 ∷ 2 ∷ []) ∷ more ∷ [])
    -- B7 B5 62 01 02 10 00: need more, kept 6
    ∷ row One 16 23 (opens (0xB5 ∷ 0x62 ∷ 0x01 ∷ 0x02 ∷ 0x10 ∷ 0x00 ∷ []) ∷ steps ∷ closes ∷ []) (ok ∷ more ∷ closed 0 6 0 ∷ [])
    -- B8 MAX 0, first 7 bytes of T: C 6 gives no room 2; C 7 keeps 7
    ∷ row One 0 6 (opens (take 7 frame_t) ∷ steps ∷ []) (ok ∷ (5 ∷ 0 ∷ 2 ∷ []) ∷ [])
    ∷ row One 0 7 (opens (take 7 frame_t) ∷ steps ∷ closes ∷ []) (ok ∷ more ∷ closed 0 7 0 ∷ [])
    -- B9 mode two: D3 FC 01 AA is a frame of 4 bytes
    ∷ row Two 16 23 (opens (0xD3 ∷ 0xFC ∷ 0x01 ∷ 0xAA ∷ []) ∷ steps ∷ []) (ok ∷ (2 ∷ 0 ∷ 1 ∷ 0 ∷ 4 ∷ []) ∷ [])
    -- B10 mode two, C 3: D3 00 01 kept; then AA gives no room 4
    ∷ row Two 16 3 (opens (0xD3 ∷ 0x00 ∷ 0x01 ∷ []) ∷ steps ∷ closes ∷ opens (0xAA ∷ []) ∷ steps ∷ []) (ok ∷ more ∷ closed 0 3 0 ∷ ok ∷ (5 ∷ 0 ∷ 4 ∷ []) ∷ [])
    -- B11 mode three: 24 47 50 54 58 54, then T: need more with used 1; the next step gives the frame at 6
    ∷ row Three 16 23 (opens (0x24 ∷ 0x47 ∷ 0x50 ∷ 0x54 ∷ 0x58 ∷ 0x54 ∷ frame_t) ∷ steps ∷ closes ∷ []) (ok ∷ more ∷ closed 1 13 0 ∷ [])
    ∷ row Three 16 23 (opens (0x24 ∷ 0x47 ∷ 0x50 ∷ 0x54 ∷ 0x58 ∷ 0x54 ∷ frame_t) ∷ steps ∷ steps ∷ []) (ok ∷ more ∷ (1 ∷ 6 ∷ 0x0A ∷ 0x04 ∷ 1 ∷ 12 ∷ 2 ∷ []) ∷ [])
    -- B12 U: class 01, id 02, start 6, length 3
    ∷ row One 16 23 (opens frame_u ∷ steps ∷ []) (ok ∷ (1 ∷ 0 ∷ 0x01 ∷ 0x02 ∷ 1 ∷ 6 ∷ 3 ∷ []) ∷ [])
    ∷ []

-- each row has one answer of 01's, and another for whoever makes the error
abbrev pub porters_errors : List Row
porters_errors =
    -- draining a whole frame after a wrong sum, and losing a frame inside it
    row One 16 23 (opens (0xB5 ∷ 0x62 ∷ 0x01 ∷ 0x02 ∷ 0x08 ∷ 0x00 ∷ frame_t ++ 0x00 ∷ 0x00 ∷ []) ∷ steps ∷ steps ∷ steps ∷ [])
    (ok ∷ (4 ∷ 0 ∷ 0x0000 ∷ 0x6872 ∷ 0x01 ∷ 0x02 ∷ 8 ∷ []) ∷ (1 ∷ 6 ∷ 0x0A ∷ 0x04 ∷ 1 ∷ 12 ∷ 2 ∷ []) ∷ more ∷ [])
    -- refusing n = MAX
    ∷ row One 1 23 (opens frame_u ∷ steps ∷ []) (ok ∷ (1 ∷ 0 ∷ 0x01 ∷ 0x02 ∷ 1 ∷ 6 ∷ 3 ∷ []) ∷ [])
    -- testing n + 8 against C for a frame on both sides: n + 2 ≤ 7 < n + 8
    ∷ row One 0 7 (opens (take 7 frame_t) ∷ steps ∷ closes ∷ opens (0x34 ∷ []) ∷ steps ∷ []) (ok ∷ more ∷ closed 0 7 0 ∷ ok ∷ (1 ∷ 0 ∷ 0x0A ∷ 0x04 ∷ 0 ∷ 0 ∷ 2 ∷ []) ∷ [])
    -- putting sync or check bytes into the sum: the computed pair is that of 01 02 01 00 AA
    ∷ row One 16 23 (opens (take 8 frame_u ++ 0xBB ∷ []) ∷ steps ∷ []) (ok ∷ (4 ∷ 0 ∷ 0xBBAE ∷ 0xBAAE ∷ 0x01 ∷ 0x02 ∷ 1 ∷ []) ∷ [])
    -- moving the carry where m < C − live: 2 of 9 live bytes are used up, and the chunk's rest goes behind the 9
    ∷ row One 16 23 (opens (0xB5 ∷ 0x62 ∷ 0xB5 ∷ 0x62 ∷ 0x11 ∷ 0x00 ∷ 0x01 ∷ 0x00 ∷ 0xAA ∷ []) ∷ closes ∷ opens (0xBC ∷ 0x02 ∷ 0x07 ∷ []) ∷ steps ∷ shows ∷ [])
    (ok ∷ closed 0 9 0 ∷ ok ∷ (1 ∷ 2 ∷ 0x11 ∷ 0x00 ∷ 0 ∷ 8 ∷ 3 ∷ [])
    ∷ (0xB5 ∷ 0x62 ∷ 0xB5 ∷ 0x62 ∷ 0x11 ∷ 0x00 ∷ 0x01 ∷ 0x00 ∷ 0xAA ∷ 0xBC ∷ 0x02 ∷ 0x07 ∷ replicate 11 0) ∷ [])
    ∷ []

-- a frame with message 1230, as a receiver sent it, without the last byte of its parity, 2A
abbrev pub message1230 : List ℕ
message1230 = 0xD3 ∷ 0x00 ∷ 0x08 ∷ 0x4C ∷ 0xE0 ∷ 0x00 ∷ 0x8A ∷ 0x00 ∷ 0x00 ∷ 0x00 ∷ 0x00 ∷ 0xA8 ∷ 0xF7 ∷ []

-- MAX 16, modes two and three
abbrev pub parity_rows : List Row
parity_rows =
    -- a frame of n + 6 bytes, in one piece and cut
    checked Two 16 1029 (opens (message1230 ++ 0x2A ∷ []) ∷ steps ∷ steps ∷ []) (ok ∷ (2 ∷ 0 ∷ 1 ∷ 0 ∷ 14 ∷ []) ∷ more ∷ [])
    ∷ checked Three 16 1029 (opens message1230 ∷ steps ∷ closes ∷ opens (0x2A ∷ []) ∷ steps ∷ []) (ok ∷ more ∷ closed 0 13 0 ∷ ok ∷ (2 ∷ 0 ∷ 0 ∷ 0 ∷ 14 ∷ []) ∷ [])
    -- a wrong parity is told, received and computed, and drains 1
    ∷ checked Two 16 1029 (opens (message1230 ++ 0x2B ∷ []) ∷ steps ∷ closes ∷ []) (ok ∷ (8 ∷ 0 ∷ 0xA8F72B ∷ 0xA8F72A ∷ []) ∷ closed 1 13 0 ∷ [])
    -- D3 00 01 before T: without parity it takes T's first byte, with parity T is handed out at 3
    ∷ row Two 16 23 (opens (0xD3 ∷ 0x00 ∷ 0x01 ∷ frame_t) ∷ steps ∷ steps ∷ []) (ok ∷ (2 ∷ 0 ∷ 1 ∷ 0 ∷ 4 ∷ []) ∷ more ∷ [])
    ∷ checked Two 16 23 (opens (0xD3 ∷ 0x00 ∷ 0x01 ∷ frame_t) ∷ steps ∷ steps ∷ []) (ok ∷ (8 ∷ 0 ∷ 0x620A04 ∷ 0xE56A53 ∷ []) ∷ (1 ∷ 3 ∷ 0x0A ∷ 0x04 ∷ 1 ∷ 9 ∷ 2 ∷ []) ∷ [])
    -- no room reports n + 6
    ∷ checked Two 16 3 (opens (0xD3 ∷ 0x00 ∷ 0x01 ∷ []) ∷ steps ∷ closes ∷ opens (0xAA ∷ []) ∷ steps ∷ []) (ok ∷ more ∷ closed 0 3 0 ∷ ok ∷ (5 ∷ 0 ∷ 7 ∷ []) ∷ [])
    ∷ []
