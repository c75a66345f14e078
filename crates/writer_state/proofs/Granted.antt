-- A call that is not refused: what its state and its memory then are, and that such a call is never refused.
use mathlib.Core.Path.{◌≡◌, refl, ap, ◌∙◌}
use mathlib.Core.Bool.{Bool, true, false, not}
use Prim.Native.Nat.{ℕ, ◌+◌, ◌≤◌}
use borrow.Author.Tests.{eqb-true, ltb-false, le-ltb, eq-eqb, not-false}
use Rattle.std.specs.Prelude.{Result, Ok, Err, ⊤}
use Rattle.window.specs.Pick.{pick}
use Rattle.window.proofs.Pick.{pick_false}
use Rattle.state.proofs.Granted.{any_next, none_of}
use Rattle.writer_state.specs.declared.Writer.{Writer}
use Rattle.writer_state.specs.declared.Refusal.{Refusal}
use Rattle.writer_state.specs.Refusals.{may_begin, faults, is_bad, may_add, may_finish}

-- where a call is granted, each test that would refuse it fails, and the tests after it grant it
past : (b : Bool) (r : Refusal) (l : Result ⊤ Refusal) → pick b (Err r) l ≡ Ok tt → (b ≡ false) × (l ≡ Ok tt)
unfolding pick
past true r l e = absurd (cc)
past false r l e = (refl, e)

-- ---- beginning

-- a payload of n bytes, and room for its frame
pub record Fits (room n : ℕ) : Type 0 where
  pub short : n ≤ 16376
  pub holds : n + 8 ≤ room

pub begin_granted : (room n : ℕ) → may_begin room n ≡ Ok tt → Fits room n
unfolding may_begin
begin_granted room n e =
    let long = past _ _ _ e in
    let tight = past _ _ _ long.1 in
    record { short = ltb-false 16376 n long.0; holds = ltb-false room (n + 8) tight.0 }

pub grant_begin : (room n : ℕ) → Fits room n → may_begin room n ≡ Ok tt
unfolding may_begin
grant_begin room n f = rw (le-ltb _ _ f.short, pick_false, le-ltb _ _ f.holds, pick_false)

-- ---- a state that is not bad

pub record Sound (w : Writer) (room : ℕ) : Type 0 where
  pub rooms : room ≡ w.room
  pub fits : Fits w.room w.len
  pub counts : w.written ≤ w.len

module _ (w : Writer) (room : ℕ) where
  pub sound_of : is_bad w room ≡ false → Sound w room
  unfolding is_bad
  sound_of e =
      let a = none_of (faults w room) e in
      record {
        rooms = eqb-true room w.room (not-false _ a.0);
        fits = record { short = ltb-false 16376 w.len a.1.0; holds = ltb-false w.room (w.len + 8) a.1.1.0 };
        counts = ltb-false w.len w.written a.1.1.1.0;
      }

  pub not_bad : Sound w room → is_bad w room ≡ false
  unfolding is_bad
  not_bad h =
      any_next _ _ (ap not (eq-eqb room w.room h.rooms))
      ∙ any_next _ _ (le-ltb _ _ h.fits.short)
      ∙ any_next _ _ (le-ltb _ _ h.fits.holds)
      ∙ any_next _ _ (le-ltb _ _ h.counts)

  -- ---- a piece of n bytes

  pub add_granted : (n : ℕ) → may_add w room n ≡ Ok tt → Sound w room × (w.written + n ≤ w.len)
  unfolding may_add
  add_granted n e =
      let bad = past _ _ _ e in
      let over = past _ _ _ bad.1 in
      (sound_of bad.0, ltb-false w.len (w.written + n) over.0)

  pub grant_add : (n : ℕ) → Sound w room → w.written + n ≤ w.len → may_add w room n ≡ Ok tt
  unfolding may_add
  grant_add n h p = rw (not_bad h, pick_false, le-ltb _ _ p, pick_false)

  -- ---- finishing

  pub finish_granted : may_finish w room ≡ Ok tt → Sound w room × (w.len ≤ w.written)
  unfolding may_finish
  finish_granted e =
      let bad = past _ _ _ e in
      let early = past _ _ _ bad.1 in
      (sound_of bad.0, ltb-false w.written w.len early.0)

  pub grant_finish : Sound w room → w.len ≤ w.written → may_finish w room ≡ Ok tt
  unfolding may_finish
  grant_finish h p = rw (not_bad h, pick_false, le-ltb _ _ p, pick_false)
