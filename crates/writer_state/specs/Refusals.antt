-- 02, "Writing frames": the refusals, in its order.
use Rattle.std.specs.Prelude.{ℕ, ◌+◌, Bool, not, List, [], ◌∷◌, Result, Ok, Err, ⊤, ltb, eqb}
use Rattle.window.specs.Pick.{pick}
use Rattle.state.specs.Refusals.{any_of}
use Rattle.writer_state.specs.declared.Writer.{Writer}
use Rattle.writer_state.specs.declared.Refusal.{Refusal, TheVariants.{TooLong, NoRoom, BadState, PieceTooLong, Early}}

-- numbered in 02's order; a call that is not refused has 0
abbrev pub refusal_no : Refusal → ℕ
refusal_no TooLong = 1
refusal_no NoRoom = 2
refusal_no BadState = 3
refusal_no PieceTooLong = 4
refusal_no Early = 5

abbrev pub leave_no : Result ⊤ Refusal → ℕ
leave_no (Ok tt) = 0
leave_no (Err r) = refusal_no r

-- 1, length over 16,376; 2, room under length + 8
abbrev pub is_long : ℕ → Bool
is_long n = ltb 16376 n

abbrev pub is_tight : ℕ → ℕ → Bool
is_tight room n = ltb room (n + 8)

-- beginning: 1, then 2
unfoldable pub may_begin : ℕ → ℕ → Result ⊤ Refusal
may_begin room n =
    pick (is_long n) (Err TooLong)
    (pick (is_tight room n) (Err NoRoom)
    (Ok tt))

-- the poll: 2, with room under 8
unfoldable pub may_poll : ℕ → Result ⊤ Refusal
may_poll room = pick (is_tight room 0) (Err NoRoom) (Ok tt)

-- 3, bad state: for another memory length, failing these two, or with more written than its length
abbrev pub faults : Writer → ℕ → List Bool
faults w room = not (eqb room w.room) ∷ is_long w.len ∷ is_tight w.room w.len ∷ ltb w.len w.written ∷ []

unfoldable pub is_bad : Writer → ℕ → Bool
is_bad w room = any_of (faults w room)

-- a piece of n bytes: 3, then 4, it passes the length
unfoldable pub may_add : Writer → ℕ → ℕ → Result ⊤ Refusal
may_add w room n =
    pick (is_bad w room) (Err BadState)
    (pick (ltb w.len (w.written + n)) (Err PieceTooLong)
    (Ok tt))

-- finishing: 3, then 5, early
unfoldable pub may_finish : Writer → ℕ → Result ⊤ Refusal
may_finish w room =
    pick (is_bad w room) (Err BadState)
    (pick (ltb w.written w.len) (Err Early)
    (Ok tt))
