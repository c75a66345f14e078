-- Two outcomes that one contract allows are the same.
use Rattle.std.specs.Prelude.{Result, Ok, Err, ⊤}
use mathlib.Core.Path.{◌≡◌, refl, sym, ap, ◌∙◌}
use mathlib.Core.List.{List, [], ◌∷◌}
use Prim.Native.Nat.{ℕ}
use lib.ListN.{get_or}
use Rattle.state.specs.declared.Refusal.{Refusal, TheVariants.{CarryTooBig, BadState, AlreadyOpen, NotOpen, ChunkTooLong, OtherChunk, BadPlace}}
use Rattle.state.specs.Refusals.{refusal_no, leave_no}
use Rattle.opening.specs.declared.Opened.{Opened}
use Rattle.opening.specs.declared.Closed.{Closed}
use Rattle.opening.specs.Operations.{CloseOut}
use Rattle.opening.specs.Promises.{Opens, Closes}

-- ---- a number is that of one refusal only: each is read back

abbrev pub refusal_by : ℕ → Refusal
refusal_by n = get_or (BadPlace ∷ CarryTooBig ∷ BadState ∷ AlreadyOpen ∷ NotOpen ∷ ChunkTooLong ∷ OtherChunk ∷ []) n BadPlace

pub refusal_back : (r : Refusal) → refusal_by (refusal_no r) ≡ r
refusal_back CarryTooBig = refl
refusal_back BadState = refl
refusal_back AlreadyOpen = refl
refusal_back NotOpen = refl
refusal_back ChunkTooLong = refl
refusal_back OtherChunk = refl
refusal_back BadPlace = refl

abbrev leave_by : ℕ → Result ⊤ Refusal
leave_by n = get_or ((Ok tt) ∷ []) n (Err (refusal_by n))

leave_back : (l : Result ⊤ Refusal) → leave_by (leave_no l) ≡ l
leave_back (Ok tt) = refl
leave_back (Err CarryTooBig) = refl
leave_back (Err BadState) = refl
leave_back (Err AlreadyOpen) = refl
leave_back (Err NotOpen) = refl
leave_back (Err ChunkTooLong) = refl
leave_back (Err OtherChunk) = refl
leave_back (Err BadPlace) = refl

pub same_leave : (l m : Result ⊤ Refusal) → leave_no l ≡ leave_no m → l ≡ m
same_leave l m e = sym (leave_back l) ∙ ap leave_by e ∙ leave_back m

-- ---- what each contract promises is one outcome, so two that it allows are the same

-- starting and opening
pub opens_is : (is r : Opened) → Opens is r → r ≡ is
opens_is is r h = rw (same_leave r.leave is.leave h.refusal, h.state)

pub opens_determined : (is r q : Opened) → Opens is r → Opens is q → r ≡ q
opens_determined is r q h k = opens_is is r h ∙ sym (opens_is is q k)

pub closes_is : (is : CloseOut) (r : Closed) (carry : List ℕ) → Closes is r carry → (r ≡ is.result) × (carry ≡ is.carry)
closes_is is r carry h = (rw (same_leave r.leave is.result.leave h.refusal, h.used, h.kept, h.lost, h.state), h.bytes)

pub closes_determined : (is : CloseOut) (r q : Closed) (c d : List ℕ) → Closes is r c → Closes is q d → (r ≡ q) × (c ≡ d)
closes_determined is r q c d h k =
    let a = closes_is is r c h in
    let b = closes_is is q d k in
    (a.0 ∙ sym b.0, a.1 ∙ sym b.1)
