-- Two outcomes that one contract allows are the same.
use mathlib.Core.Path.{◌≡◌, refl, sym, ap, ◌∙◌}
use mathlib.Core.List.{List, [], ◌∷◌}
use Prim.Native.Nat.{ℕ}
use lib.ListN.{get_or}
use Rattle.std.specs.Prelude.{Result, Ok, Err, ⊤}
use Rattle.writer_state.specs.declared.Refusal.{Refusal, TheVariants.{TooLong, NoRoom, BadState, PieceTooLong, Early}}
use Rattle.writer_state.specs.Refusals.{leave_no}
use Rattle.writer.specs.declared.Written.{Written}
use Rattle.writer.specs.Writing.{WriteOut, PollOut}
use Rattle.writer.specs.Promises.{Writes, Polls}

-- a number is that of one leave only: it is read back
abbrev leave_by : ℕ → Result ⊤ Refusal
leave_by n = get_or (Ok tt ∷ Err TooLong ∷ Err NoRoom ∷ Err BadState ∷ Err PieceTooLong ∷ []) n (Err Early)

leave_back : (l : Result ⊤ Refusal) → leave_by (leave_no l) ≡ l
leave_back (Ok tt) = refl
leave_back (Err TooLong) = refl
leave_back (Err NoRoom) = refl
leave_back (Err BadState) = refl
leave_back (Err PieceTooLong) = refl
leave_back (Err Early) = refl

pub same_leave : (l m : Result ⊤ Refusal) → leave_no l ≡ leave_no m → l ≡ m
same_leave l m e = sym (leave_back l) ∙ ap leave_by e ∙ leave_back m

-- begin, piece and finish
pub writes_is : (is : WriteOut) (r : Written) (memory : List ℕ) → Writes is r memory → (r ≡ is.result) × (memory ≡ is.memory)
writes_is is r memory h = (rw (same_leave r.leave is.result.leave h.refusal, h.state), h.bytes)

pub writes_determined : (is : WriteOut) (r q : Written) (m n : List ℕ) → Writes is r m → Writes is q n → (r ≡ q) × (m ≡ n)
writes_determined is r q m n h k =
    let a = writes_is is r m h in
    let b = writes_is is q n k in
    (a.0 ∙ sym b.0, a.1 ∙ sym b.1)

pub polls_is : (is : PollOut) (r : Result ⊤ Refusal) (memory : List ℕ) → Polls is r memory → (r ≡ is.leave) × (memory ≡ is.memory)
polls_is is r memory h = (same_leave r is.leave h.refusal, h.bytes)

pub polls_determined : (is : PollOut) (r q : Result ⊤ Refusal) (m n : List ℕ) → Polls is r m → Polls is q n → (r ≡ q) × (m ≡ n)
polls_determined is r q m n h k =
    let a = polls_is is r m h in
    let b = polls_is is q n k in
    (a.0 ∙ sym b.0, a.1 ∙ sym b.1)
