-- 02, Ticket 4: the frames of a scan that reads RTCM frames with parity. None that is good is lost, none but a good one is handed
-- out, and stray bytes take no good frame. A wrong parity stands where it is told, in the scan and in a step.
use Rattle.std.specs.Prelude.{◌≡◌, ◌⊎◌, true, ℕ, ◌+◌, ◌-◌, ◌≤◌, ◌<◌, length, get_or, take, drop}
use mathlib.Core.List.{List, ◌∷◌, ◌++◌, Memᴰ as Among}
use Rattle.parity.specs.Parity.{parity_of, word_of}
use Rattle.window.specs.declared.Mode.TheVariants.{Two}
use Rattle.window.specs.Sync.{has_parity, is_sync}
use Rattle.state.specs.declared.State.{State}
use Rattle.state.specs.Words.{window}
use Rattle.framer.specs.declared.Answer.TheVariants.{WrongParity}
use Rattle.framer.specs.Step.{step}
use Rattle.stream.specs.Scan.{rtcm_frame, wrong_parity, Event, ended, scan}
use Rattle.stream.specs.Interface.{frame, GoodFrame, Bytes}
use Rattle.stream.specs.Frames.{span, hand_out, Kept}
use Rattle.stream.specs.Rtcm.{rtcm, GoodRtcm, WrongRtcm}

-- the answer that hands out an RTCM frame at p: the body is the whole frame
abbrev pub hand_out_rtcm : ℕ → ℕ → List ℕ → Event
hand_out_rtcm p reserved message = record { at = p; said = rtcm_frame (rtcm reserved message) }

-- wherever a whole good RTCM frame stands in the stream
abbrev pub NoGoodRtcmIsLost : Type 0
NoGoodRtcmIsLost =
    (max : ℕ) (stream : List ℕ) (p reserved : ℕ) (message : List ℕ) → GoodRtcm (drop p stream) reserved message
    → Kept (scan (Two true) max stream).answers (scan (Two true) max stream).tail_at p (hand_out_rtcm p reserved message)

-- every RTCM frame that is handed out is a good one that stands there
abbrev pub OnlyGoodRtcm : Type 0
OnlyGoodRtcm =
    (max : ℕ) (stream : List ℕ) → Bytes stream → (e : Event) → Among e (scan (Two true) max stream).answers → (body : List ℕ) → e.said ≡ rtcm_frame body
    → (reserved : ℕ) × (message : List ℕ) × GoodRtcm (drop e.at stream) reserved message × (body ≡ rtcm reserved message)

-- and every wrong parity is one that stands there, with the true value
abbrev pub OnlyWrongParities : Type 0
OnlyWrongParities =
    (max : ℕ) (stream : List ℕ) → Bytes stream → (e : Event) → Among e (scan (Two true) max stream).answers → (expect got : ℕ) → e.said ≡ wrong_parity expect got
    → (reserved : ℕ) × (message : List ℕ) × WrongRtcm (drop e.at stream) reserved message expect got

-- and so in a step, in every mode and from every state: a wrong parity is told only where the mode reads RTCM and has parity, and it
-- stands in the window, at the answer's position
abbrev pub WrongParitiesStand : Type 0
WrongParitiesStand =
    (s : State) (carry chunk : List ℕ) → Bytes (window s carry chunk) → (p expect got : ℕ)
    → (step s carry chunk).result.answer ≡ WrongParity p expect got
    → (s.used ≤ p)
    × (is_sync s.mode 0xD3 ≡ true) × (has_parity s.mode ≡ true)
    × (reserved : ℕ) × (message : List ℕ) × WrongRtcm (drop (p - s.used) (window s carry chunk)) reserved message expect got

-- an answer hands out a good frame, of either kind, that stands at its place
abbrev pub GoodOut : ℕ → List ℕ → Event → Type 0
GoodOut max stream f =
    ((class : ℕ) × (id : ℕ) × (payload : List ℕ) × GoodFrame max (drop f.at stream) class id payload × (f ≡ hand_out f.at class id payload))
    ⊎ ((reserved : ℕ) × (message : List ℕ) × GoodRtcm (drop f.at stream) reserved message × (f ≡ hand_out_rtcm f.at reserved message))

-- so stray bytes take no good frame, of either kind: it is handed out, or begins inside a good frame that was handed out before it, or
-- behind the start of the unfinished tail
pub data KeptFrom (max : ℕ) (stream : List ℕ) (answers : List Event) (tail_at p : ℕ) (e : Event) : Type 0 where
  handed : Among e answers → KeptFrom max stream answers tail_at p e
  inside_good : (f : Event) → Among f answers → f.at < p → p < f.at + span f.said → GoodOut max stream f → KeptFrom max stream answers tail_at p e
  unfinished : tail_at ≤ p → KeptFrom max stream answers tail_at p e

abbrev pub StrayBytesTakeNoUbxFrame : Type 0
StrayBytesTakeNoUbxFrame =
    (max : ℕ) (stream : List ℕ) → Bytes stream → (p class id : ℕ) (payload : List ℕ) → GoodFrame max (drop p stream) class id payload
    → KeptFrom max stream (scan (Two true) max stream).answers (scan (Two true) max stream).tail_at p (hand_out p class id payload)

abbrev pub StrayBytesTakeNoRtcmFrame : Type 0
StrayBytesTakeNoRtcmFrame =
    (max : ℕ) (stream : List ℕ) → Bytes stream → (p reserved : ℕ) (message : List ℕ) → GoodRtcm (drop p stream) reserved message
    → KeptFrom max stream (scan (Two true) max stream).answers (scan (Two true) max stream).tail_at p (hand_out_rtcm p reserved message)

-- and a D3 just before a UBX frame, at the stream's beginning, costs it a wait: B5 62 is read as the length 354, so 360 bytes are waited for. With fewer all is unfinished
-- tail; with as many, which would have to have the right parity to be an RTCM frame, it is handed out at its place
abbrev pub StrayD3Waits : Type 0
StrayD3Waits =
    (max class id : ℕ) (payload rest : List ℕ) → length payload ≤ max
    → let stream : List ℕ = 0xD3 ∷ (frame class id payload ++ rest) in
    (length stream < 360 → scan (Two true) max stream ≡ ended 0 stream)
    × (360 ≤ length stream → (word_of (get_or stream 357 0) (get_or stream 358 0) (get_or stream 359 0) ≡ parity_of (take 357 stream) → ⊥)
    → Among (hand_out 1 class id payload) (scan (Two true) max stream).answers)
