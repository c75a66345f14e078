-- 02, "Writing frames": a frame so written, fed alone as one chunk to a fresh parser, gives that frame and nothing else.
use Rattle.std.specs.Prelude.{◌≡◌, List, [], ◌∷◌, ℕ, ◌+◌, ◌≤◌, length, take, Ok}
use Rattle.window.specs.declared.Mode.{Mode}
use Rattle.taking.specs.declared.Side.TheVariants.{Chunk}
use Rattle.taking.specs.declared.Place.{Place}
use Rattle.taking.specs.View.{view}
use Rattle.opening.specs.declared.Opened.{Opened}
use Rattle.framer.specs.declared.Answer.TheVariants.{UbxFrame, NeedMore}
use Rattle.opening.specs.Operations.{CloseOut, start, opening, closing}
use Rattle.framer.specs.Step.{StepOut, step}
use Rattle.stream.specs.Calls.{Call, after_all, hears_all, loses_all}
use Rattle.stream.specs.Runs.{between, Follows, joined}
use Rattle.stream.specs.Demand.{fresh}
use Rattle.stream.specs.Interface.{frame}
use Rattle.stream.specs.Frames.{body_of, hand_out}
use Rattle.writer.specs.Writing.{beginning}
use Rattle.written.specs.Runs.{written}

-- the chunk is opened, stepped until need more, and closed

module _ (mode : Mode) (max : ℕ) (carry chunk : List ℕ) where
  abbrev pub opened : Opened
  opened = opening (start mode max (length carry)).state carry chunk

  abbrev pub first : StepOut
  first = step opened.state carry chunk

  abbrev pub second : StepOut
  second = step first.result.state first.carry chunk

  abbrev pub closed : CloseOut
  closed = closing second.result.state second.carry chunk

-- the body of a frame with n payload bytes: behind the six bytes of the head, with the two check bytes
abbrev pub body_at : ℕ → Place
body_at n = record { side = Chunk; start = 6; len = n + 2 }

-- that frame and nothing else: all of the chunk is used, and the carry is as it was
pub record GivesIt (mode : Mode) (max : ℕ) (carry : List ℕ) (class id : ℕ) (payload chunk : List ℕ) : Type 0 where
  pub opens : (opened mode max carry chunk).leave ≡ Ok tt
  pub says : (first mode max carry chunk).result.answer ≡ UbxFrame class id 0 (body_at (length payload))
  pub body : view (first mode max carry chunk).carry chunk (body_at (length payload)) ≡ body_of class id payload
  pub ends : (second mode max carry chunk).result.answer ≡ NeedMore
  pub closes : (closed mode max carry chunk).result.leave ≡ Ok tt
  pub used : (closed mode max carry chunk).result.used ≡ length payload + 8
  pub kept : (closed mode max carry chunk).result.kept ≡ 0
  pub lost : (closed mode max carry chunk).result.lost ≡ 0
  pub bytes : (closed mode max carry chunk).carry ≡ carry

-- in every mode: a carry that a parser takes, a payload that a writer takes, and a MAX of at least its length
abbrev pub Fitting : ℕ → List ℕ → List ℕ → Type 0
Fitting max carry payload = (length carry ≤ 16384) × (length payload ≤ 16376) × (length payload ≤ max)

abbrev pub AFrameComesBack : Type 0
AFrameComesBack =
    (mode : Mode) (max : ℕ) (carry : List ℕ) (class id : ℕ) (payload : List ℕ) → Fitting max carry payload → GivesIt mode max carry class id payload (frame class id payload)

-- and so does what such calls wrote, of which a frame is the first n + 8 bytes
abbrev pub WhatIsWrittenComesBack : Type 0
WhatIsWrittenComesBack =
    (mode : Mode) (max : ℕ) (carry memory : List ℕ) (class id : ℕ) (pieces : List (List ℕ)) → Fitting max carry (joined pieces) → length (joined pieces) + 8 ≤ length memory
    → GivesIt mode max carry class id (joined pieces) (take (length (joined pieces) + 8) (written (beginning memory class id (length (joined pieces))) pieces))

-- and whatever the calls that put it through the parser, as those of demand 3 do, with refused calls and views anywhere between: that
-- frame is all that is heard, nothing is lost, and the parser is fresh again, with all of the chunk used
abbrev pub AFrameIsHeardAlone : Type 0
AFrameIsHeardAlone =
    (mode : Mode) (max : ℕ) (carry : List ℕ) (class id : ℕ) (payload : List ℕ) → Fitting max carry payload
    → (calls : List Call) → Follows between (fresh mode max carry) calls (frame class id payload ∷ [])
    → (hears_all calls (fresh mode max carry) ≡ hand_out 0 class id payload ∷ []) × (loses_all calls (fresh mode max carry) ≡ 0)
    × (after_all calls (fresh mode max carry) ≡ record { state = (fresh mode max carry).state; carry = carry; base = length payload + 8 })
