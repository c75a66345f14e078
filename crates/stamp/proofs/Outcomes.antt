-- Each outcome of a reading, and when it comes.
use mathlib.Core.Path.{◌≡◌, refl}
use mathlib.Core.Bool.{Bool, true, false}
use mathlib.Core.List.{List}
use Prim.Native.Nat.{ℕ, ◌-◌, ◌≤◌, ◌<◌}
use native.Mathlib.Omega.{arith}
use lib.ListN.{length}
use borrow.Author.Tests.{ltb-true, ltb-false, not-true, not-false}
use Rattle.std.specs.Prelude.{Option, None, Some, Ok, Err}
use Rattle.window.specs.Pick.{pick}
use Rattle.window.proofs.Pick.{by_pick}
use Rattle.stamp.specs.declared.Heard.{Heard}
use Rattle.stamp.specs.declared.Fault.TheVariants.{NotThisMessage, NotValid, Field}
use Rattle.stamp.specs.declared.Reading.TheVariants.{Stamp, BackBy}
use Rattle.stamp.specs.Message.{is_this, fields_of, is_valid, in_range}
use Rattle.stamp.specs.Stamp.{stamp_of, heard, hand, read}
use Rattle.stamp.specs.NeverBack.{floor}

module _ (clock : Option ℕ) (class id : ℕ) (payload : List ℕ) where
  pub read_other : is_this class id (length payload) ≡ false → read clock class id payload ≡ heard (Err NotThisMessage) clock
  unfolding read pick
  read_other e = rw e

  module _ (this : is_this class id (length payload) ≡ true) where
    pub read_invalid : is_valid (fields_of payload) ≡ false → read clock class id payload ≡ heard (Err NotValid) clock
    unfolding read pick
    read_invalid e = rw (this, e)

    module _ (valid : is_valid (fields_of payload) ≡ true) where
      pub read_outside : in_range (fields_of payload) ≡ false → read clock class id payload ≡ heard (Err Field) clock
      unfolding read pick
      read_outside e = rw (this, valid, e)

      pub read_hands : in_range (fields_of payload) ≡ true → read clock class id payload ≡ hand clock (stamp_of (fields_of payload))
      unfolding read pick
      read_hands e = rw (this, valid, e)

-- a reading is one of these, and says which tests the payload passed
pub data Outcome (clock : Option ℕ) (this valid ranged : Bool) (t : ℕ) : Heard → Type 0 where
  not_this : this ≡ false → Outcome clock this valid ranged t (heard (Err NotThisMessage) clock)
  not_valid : this ≡ true → valid ≡ false → Outcome clock this valid ranged t (heard (Err NotValid) clock)
  outside : this ≡ true → valid ≡ true → ranged ≡ false → Outcome clock this valid ranged t (heard (Err Field) clock)
  handed : this ≡ true → valid ≡ true → ranged ≡ true → floor clock ≤ t
      → Outcome clock this valid ranged t (heard (Ok (Stamp t)) (Some t))
  back : this ≡ true → valid ≡ true → ranged ≡ true → (l : ℕ) → clock ≡ Some l → t < l
      → Outcome clock this valid ranged t (heard (Ok (BackBy (l - t))) clock)

hand_outcome : (clock : Option ℕ) (this valid ranged : Bool) (t : ℕ) → this ≡ true → valid ≡ true → ranged ≡ true
    → Outcome clock this valid ranged t (hand clock t)
hand_outcome None this valid ranged t a b c = handed a b c (omega arith)
hand_outcome (Some l) this valid ranged t a b c =
    by_pick (Outcome (Some l) this valid ranged t) (λ e. back a b c l refl (ltb-true t l e)) (λ e. handed a b c (ltb-false t l e))

-- of a frame's payload: this message, valid, in range, and its stamp
abbrev pub OutcomeOf : Option ℕ → ℕ → ℕ → List ℕ → Heard → Type 0
OutcomeOf clock class id payload h =
    let f = fields_of payload in
    Outcome clock (is_this class id (length payload)) (is_valid f) (in_range f) (stamp_of f) h

pub outcome : (clock : Option ℕ) (class id : ℕ) (payload : List ℕ) → OutcomeOf clock class id payload (read clock class id payload)
unfolding read
outcome clock class id payload =
    let f = fields_of payload in
    let this = is_this class id (length payload) in
    let P : Heard → Type 0 = OutcomeOf clock class id payload in
    by_pick P (λ a. not_this (not-true this a))
    (λ a. by_pick P (λ b. not_valid (not-false this a) (not-true (is_valid f) b))
    (λ b. by_pick P (λ c. outside (not-false this a) (not-false (is_valid f) b) (not-true (in_range f) c))
    (λ c. hand_outcome clock this (is_valid f) (in_range f) (stamp_of f) (not-false this a) (not-false (is_valid f) b) (not-false (in_range f) c))))
