-- The look says UBX frame exactly where the interface description's frame stands, and wrong sum exactly where all but its checksum
-- does, with the true pair: in every mode, in the scan and in a step.
use mathlib.Core.Path.{◌≡◌}
use mathlib.Core.Logic.{◌↔◌}
use mathlib.Core.Bool.{Bool, true, false}
use mathlib.Core.List.{List}
use Prim.Native.Nat.{ℕ, ◌+◌, ◌≤◌}
use lib.ListN.{length, take, drop}
use lib.Dec.{ltb}
use borrow.Author.Tests.{leb-true, le-leb}
use Rattle.window.specs.declared.Mode.{Mode}
use Rattle.claim.specs.declared.Kind.{Kind, TheVariants.{Ubx}}
use Rattle.claim.specs.declared.Tale.TheVariants.{WrongSum}
use Rattle.claim.specs.declared.Verdict.TheVariants.{Tell, Hand}
use Rattle.claim.specs.Sizes.{skip, size}
use Rattle.claim.specs.Verdicts.{can_hand}
use Rattle.look.specs.declared.Sight.TheVariants.{Say}
use Rattle.look.specs.Moves.{step_move}
use Rattle.look.specs.Within.{whole}
use Rattle.look.proofs.Rules.{hand_whole}
use Rattle.stream.specs.Scan.{is_whole, scan_move}
use Rattle.stream.specs.Interface.{GoodFrame, WrongFrame, Bytes}
use Rattle.stream.proofs.Framed.{payload_at, whole_in}
use Rattle.stream.proofs.Said.{frame_said, wrong_said, said_frame, said_wrong, wrong_read}

module _ (mode : Mode) (max : ℕ) (W : List ℕ) where
  -- ---- the scan

  whole_fits : (kind : Kind) → is_whole W kind ≡ true → whole kind ≤ length W
  whole_fits kind t = leb-true (whole kind) (length W) t

  good_fits : (class id : ℕ) (payload : List ℕ) → GoodFrame max W class id payload → is_whole W (Ubx class id (length payload)) ≡ true
  good_fits class id payload g = le-leb _ _ (whole_in class id payload _ _ g.rest W g.stands)

  wrong_fits : (class id : ℕ) (payload : List ℕ) (expect got : ℕ) → WrongFrame max W class id payload expect got → is_whole W (Ubx class id (length payload)) ≡ true
  wrong_fits class id payload expect got w = le-leb _ _ (whole_in class id payload w.a w.b w.rest W w.stands)

  pub good_hands : (class id : ℕ) (payload : List ℕ) → GoodFrame max W class id payload → scan_move mode max W ≡ Say (Hand (Ubx class id (length payload)))
  unfolding scan_move
  good_hands class id payload g = frame_said mode max W (is_whole W) false class id payload g (good_fits class id payload g)

  pub scan_says_frame : Bytes W → (class id : ℕ) (payload : List ℕ)
      → GoodFrame max W class id payload ↔ ((scan_move mode max W ≡ Say (Hand (Ubx class id (length payload)))) × (take (length payload) (drop 6 W) ≡ payload))
  unfolding scan_move
  scan_says_frame bytes class id payload = (
    λ g. (good_hands class id payload g, payload_at class id payload _ _ g.rest W g.stands),
    λ h. (said_frame mode max W (is_whole W) false bytes whole_fits class id payload h.0 h.1).0,
  )

  pub scan_says_wrong : Bytes W → (class id : ℕ) (payload : List ℕ) (expect got : ℕ)
      → WrongFrame max W class id payload expect got
      ↔ ((scan_move mode max W ≡ Say (Tell (WrongSum class id (length payload) expect got))) × (take (length payload) (drop 6 W) ≡ payload))
  unfolding scan_move
  scan_says_wrong bytes class id payload expect got = (
    λ w. (
      wrong_said mode max W (is_whole W) false class id payload expect got w (wrong_fits class id payload expect got w),
      payload_at class id payload _ _ w.rest W w.stands,
    ),
    λ h. (said_wrong mode max W (is_whole W) false bytes whole_fits class id payload expect got h.0 h.1).0,
  )

  pub wrong_at : Bytes W → (class id n expect got : ℕ) → scan_move mode max W ≡ Say (Tell (WrongSum class id n expect got))
      → (payload : List ℕ) × WrongFrame max W class id payload expect got × (length payload ≡ n)
  unfolding scan_move
  wrong_at bytes = wrong_read mode max W (is_whole W) false bytes whole_fits

  -- ---- a step, where the carry has cap bytes and u of the window's lie in it: the hand-out test passes too

  module _ (cap u : ℕ) where
    abbrev can_hand_out : Kind → Bool
    can_hand_out kind = can_hand cap u (length W) (skip kind) (size kind)

    hand_fits : (kind : Kind) → can_hand_out kind ≡ true → whole kind ≤ length W
    hand_fits kind t = hand_whole cap u (length W) (skip kind) (size kind) t

    pub step_says_frame : Bytes W → (class id : ℕ) (payload : List ℕ)
        → (GoodFrame max W class id payload × (can_hand cap u (length W) 6 (length payload + 2) ≡ true))
        ↔ ((step_move mode max cap u W ≡ Say (Hand (Ubx class id (length payload)))) × (take (length payload) (drop 6 W) ≡ payload))
    unfolding step_move
    step_says_frame bytes class id payload = (
      λ g. (
        frame_said mode max W can_hand_out (ltb cap (length W)) class id payload g.0 g.1,
        payload_at class id payload _ _ g.0.rest W g.0.stands,
      ),
      λ h. said_frame mode max W can_hand_out (ltb cap (length W)) bytes hand_fits class id payload h.0 h.1,
    )

    pub step_says_wrong : Bytes W → (class id : ℕ) (payload : List ℕ) (expect got : ℕ)
        → (WrongFrame max W class id payload expect got × (can_hand cap u (length W) 6 (length payload + 2) ≡ true))
        ↔ ((step_move mode max cap u W ≡ Say (Tell (WrongSum class id (length payload) expect got))) × (take (length payload) (drop 6 W) ≡ payload))
    unfolding step_move
    step_says_wrong bytes class id payload expect got = (
      λ w. (
        wrong_said mode max W can_hand_out (ltb cap (length W)) class id payload expect got w.0 w.1,
        payload_at class id payload _ _ w.0.rest W w.0.stands,
      ),
      λ h. said_wrong mode max W can_hand_out (ltb cap (length W)) bytes hand_fits class id payload expect got h.0 h.1,
    )

    pub step_wrong_at : Bytes W → (class id n expect got : ℕ) → step_move mode max cap u W ≡ Say (Tell (WrongSum class id n expect got))
        → (payload : List ℕ) × WrongFrame max W class id payload expect got × (length payload ≡ n)
    unfolding step_move
    step_wrong_at bytes = wrong_read mode max W can_hand_out (ltb cap (length W)) bytes hand_fits
