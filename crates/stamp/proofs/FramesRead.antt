-- The good frames that are handed out are read, and no others.
use mathlib.Core.Path.{◌≡◌, refl, sym, ap, ◌∙◌, subst}
use mathlib.Core.List.Memᴰ.{append_cases as among_cases, append_left as among-left, append_right as among-right, eq_of_singleton as among_one, head as among-head, not-nil as among-nil, tail as among-tail}
use mathlib.Core.List.{List, [], ◌∷◌, ◌++◌, Memᴰ as Among}
use Prim.Native.Nat.{ℕ, ◌-◌}
use mathlib.Core.Logic.{inl, inr}
use native.Mathlib.Omega.{arith}
use lib.ListN.{length, drop, length-append}
use lib.Seq.{take_at}
use Rattle.stream.specs.Scan.{Said, ubx_frame, rtcm_frame, sentence, wrong_sum, wrong_parity, no_room, Event, scan}
use Rattle.stream.specs.Interface.{checksum, summed, GoodFrame}
use Rattle.stream.proofs.OnlyGood.{only_good_frames}
use Rattle.stamp.specs.Step.{payload_of}
use Rattle.stamp.specs.NeverBack.{Payload, frame_in, frames_in}
use Rattle.stamp.specs.FramesRead.{GoodFramesAreRead, OnlyGoodFramesAreRead}

-- a body without its check bytes is the payload
payload_back : (payload : List ℕ) (a b : ℕ) → payload_of (payload ++ a ∷ b ∷ []) ≡ payload
payload_back payload a b =
    let e : length (payload ++ a ∷ b ∷ []) - 2 ≡ length payload = simp length-append (omega arith) in
    take_at payload (a ∷ b ∷ []) (length (payload ++ a ∷ b ∷ []) - 2) (sym e)

-- what an answer's frame is read as, all its answers' are
among_frames : {e : Event} {answers : List Event} (x : Payload) → frame_in e.said ≡ x ∷ [] → Among e answers → Among x (frames_in answers)
among_frames x h (among-head {x = y} {xs = es} q) =
    let one : Among x (frame_in y.said) = rw (ap (λ (z : Event). frame_in z.said) (sym q) ∙ h) (among-head refl) in
    among-left (frames_in es) one
among_frames x h (among-tail {x = y} m) = among-right (frame_in y.said) (among_frames x h m)

pub good_frames_are_read : GoodFramesAreRead
good_frames_are_read answers p class id payload m =
    let ck = checksum (summed class id payload) in
    among_frames (record { class = class; id = id; bytes = payload })
    (ap (λ (bytes : List ℕ). record { class = class; id = id; bytes = bytes } ∷ []) (payload_back payload ck.ck_a ck.ck_b)) m

-- ---- back again

from_said : (s : Said) (x : Payload) → Among x (frame_in s) → (body : List ℕ) × (s ≡ ubx_frame x.class x.id body) × (x.bytes ≡ payload_of body)
from_said (ubx_frame class id body) x m =
    let e = among_one m in
    (body, ap (λ (y : Payload). ubx_frame y.class y.id body) (sym e), ap (λ (y : Payload). y.bytes) e)
from_said (rtcm_frame body) x m = absurd (among-nil m)
from_said (sentence body) x m = absurd (among-nil m)
from_said (wrong_sum class id n expect got) x m = absurd (among-nil m)
from_said (wrong_parity expect got) x m = absurd (among-nil m)
from_said (no_room size) x m = absurd (among-nil m)

from_answers : (answers : List Event) (x : Payload) → Among x (frames_in answers) → (e : Event) × Among e answers × Among x (frame_in e.said)
from_answers [] x m = absurd (among-nil m)
from_answers (e ∷ es) x m =
    elim (among_cases (frame_in e.said) m) [
      | inl a ↦ (e, among-head refl, a)
      | inr b ↦ let r = from_answers es x b in (r.0, among-tail r.1, r.2)
    ]

pub only_good_frames_are_read : OnlyGoodFramesAreRead
only_good_frames_are_read mode max has stream bytes x m =
    let (e, a, n) = from_answers (scan mode max stream).answers x m in
    let (body, s, b) = from_said e.said x n in
    let (payload, good, is) = only_good_frames mode max has stream bytes e a x.class x.id body s in
    let ck = checksum (summed x.class x.id payload) in
    let same : x.bytes ≡ payload = b ∙ ap payload_of is ∙ payload_back payload ck.ck_a ck.ck_b in
    (e.at, subst (λ (bytes : List ℕ). GoodFrame max (drop e.at stream) x.class x.id bytes) (sym same) good)
