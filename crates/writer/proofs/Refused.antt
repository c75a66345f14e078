-- A refused call hands back what the definition says, and leaves every byte as it was.
use Rattle.std.specs.Prelude.{Err}
use mathlib.Core.Path.{◌≡◌, refl}
use mathlib.Core.List.{List}
use Prim.Native.Nat.{ℕ}
use lib.ListN.{length}
use Rattle.writer_state.specs.declared.Writer.{Writer}
use Rattle.writer_state.specs.declared.Refusal.{Refusal}
use Rattle.writer_state.specs.Refusals.{may_begin, may_add, may_finish}
use Rattle.writer.specs.Writing.{state, beginning, adding, finishing}
use Rattle.writer.specs.Promises.{Writes}

pub begin_refused : (m : List ℕ) (class id n : ℕ) (r : Refusal) → may_begin (length m) n ≡ Err r → Writes (beginning m class id n) (record { leave = Err r; state = state 0 0 0 }) m
unfolding beginning
begin_refused m class id n r e = rw e (record { refusal = refl; state = refl; bytes = refl })

pub add_refused : (w : Writer) (m bytes : List ℕ) (r : Refusal) → may_add w (length m) (length bytes) ≡ Err r → Writes (adding w m bytes) (record { leave = Err r; state = w }) m
unfolding adding
add_refused w m bytes r e = rw e (record { refusal = refl; state = refl; bytes = refl })

pub finish_refused : (w : Writer) (m : List ℕ) (r : Refusal) → may_finish w (length m) ≡ Err r → Writes (finishing w m) (record { leave = Err r; state = w }) m
unfolding finishing
finish_refused w m r e = rw e (record { refusal = refl; state = refl; bytes = refl })
