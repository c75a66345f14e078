-- The interface description's frames in a scan: no good frame is lost, and none but a good one is handed out.
use Rattle.std.specs.Prelude.{◌≡◌, ℕ, ◌+◌, ◌-◌, ◌≤◌, ◌<◌, Bool, length, get_or, drop}
use mathlib.Core.List.{List, [], ◌∷◌, ◌++◌, Memᴰ as Among}
use Rattle.window.specs.declared.Mode.{Mode, TheVariants.{One}}
use Rattle.state.specs.declared.State.{State}
use Rattle.state.specs.Words.{window}
use Rattle.framer.specs.declared.Answer.TheVariants.{WrongSum}
use Rattle.framer.specs.Step.{step}
use Rattle.stream.specs.Scan.{Said, ubx_frame, rtcm_frame, sentence, wrong_sum, wrong_parity, no_room, Event, scan, HasScan}
use Rattle.stream.specs.Interface.{checksum, summed, frame, GoodFrame, WrongFrame, Bytes}

-- how many bytes of the stream a frame that is handed out takes up, from its position on
abbrev pub span : Said → ℕ
span (ubx_frame class id body) = 6 + length body
span (rtcm_frame body) = length body
span (sentence body) = length body
span (wrong_sum class id n expect got) = 0
span (wrong_parity expect got) = 0
span (no_room size) = 0

-- the answer that hands out a frame at p; the body is payload and two check bytes
abbrev pub body_of : ℕ → ℕ → List ℕ → List ℕ
body_of class id payload = let ck = checksum (summed class id payload) in payload ++ ck.ck_a ∷ ck.ck_b ∷ []

abbrev pub hand_out : ℕ → ℕ → ℕ → List ℕ → Event
hand_out p class id payload = record { at = p; said = ubx_frame class id (body_of class id payload) }

-- what becomes of a frame at p: it is handed out there, or its first byte lies inside a frame that was handed out before it, or
-- behind the start of the unfinished tail
pub data Kept (answers : List Event) (tail_at p : ℕ) (e : Event) : Type 0 where
  handed : Among e answers → Kept answers tail_at p e
  inside : (f : Event) → Among f answers → f.at < p → p < f.at + span f.said → Kept answers tail_at p e
  unfinished : tail_at ≤ p → Kept answers tail_at p e

-- wherever a whole good UBX frame with n ≤ MAX stands in the stream, in modes one and two
abbrev pub NoGoodFrameIsLost : Type 0
NoGoodFrameIsLost =
    (mode : Mode) (max : ℕ) → HasScan mode → (stream : List ℕ) (p class id : ℕ) (payload : List ℕ) → GoodFrame max (drop p stream) class id payload
    → Kept (scan mode max stream).answers (scan mode max stream).tail_at p (hand_out p class id payload)

-- in mode one, any one byte before a good frame, and any bytes without B5, still give that frame at its place
abbrev pub OneStrayByte : Type 0
OneStrayByte =
    (parity : Bool) (max stray class id : ℕ) (payload rest : List ℕ) → length payload ≤ max
    → Among (hand_out 1 class id payload) (scan (One parity) max (stray ∷ (frame class id payload ++ rest))).answers

abbrev pub AnyBytesWithoutB5 : Type 0
AnyBytesWithoutB5 =
    (parity : Bool) (max : ℕ) (noise : List ℕ) → ((k : ℕ) → get_or noise k 0 ≡ 0xB5 → ⊥) → (class id : ℕ) (payload rest : List ℕ) → length payload ≤ max
    → Among (hand_out (length noise) class id payload) (scan (One parity) max (noise ++ (frame class id payload ++ rest))).answers

-- every UBX frame that is handed out is a good one that stands there, and every wrong sum is one that stands there: class, id and
-- length are its head's, and the pair is the true one
abbrev pub OnlyGoodFrames : Type 0
OnlyGoodFrames =
    (mode : Mode) (max : ℕ) → HasScan mode → (stream : List ℕ) → Bytes stream → (e : Event) → Among e (scan mode max stream).answers → (class id : ℕ) (body : List ℕ)
    → e.said ≡ ubx_frame class id body → (payload : List ℕ) × GoodFrame max (drop e.at stream) class id payload × (body ≡ body_of class id payload)

abbrev pub OnlyWrongSums : Type 0
OnlyWrongSums =
    (mode : Mode) (max : ℕ) → HasScan mode → (stream : List ℕ) → Bytes stream → (e : Event) → Among e (scan mode max stream).answers → (class id n expect got : ℕ)
    → e.said ≡ wrong_sum class id n expect got
    → (payload : List ℕ) × WrongFrame max (drop e.at stream) class id payload expect got × (length payload ≡ n)

-- and so in a step, in every mode and from every state: what a wrong sum names stands in the window, at the answer's position
abbrev pub WrongSumsStand : Type 0
WrongSumsStand =
    (s : State) (carry chunk : List ℕ) → Bytes (window s carry chunk) → (class id n p expect got : ℕ)
    → (step s carry chunk).result.answer ≡ WrongSum class id n p expect got
    → (s.used ≤ p)
    × (payload : List ℕ) × WrongFrame s.max (drop (p - s.used) (window s carry chunk)) class id payload expect got × (length payload ≡ n)
