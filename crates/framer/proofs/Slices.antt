-- The window begins with what is left of the carry. The two slices that the code lends, `&carry[off..live]` and `&chunk[part..]`, are the
-- window.
use mathlib.Core.Path.{refl, sym}
use mathlib.Core.List.{List, ◌++◌}
use mathlib.Core.Logic.{inl}
use Prim.Native.Nat.{ℕ, ◌+◌, ◌-◌}
use lib.ListN.{length, take, drop}
use Rattle.window.proofs.Laws.{from}
use Rattle.claim.specs.declared.Verdict.{Verdict}
use Rattle.seek.specs.Passed.{Stops}
use Rattle.seek.specs.OneSide.{Begins}
use Rattle.state.specs.declared.State.{State}
use Rattle.state.specs.Words.{left, left_len, ahead, window}
use Rattle.state.specs.Ready.{Sane}
use Rattle.state.proofs.Window.{left_length, window_length}
use Rattle.opening.proofs.Slices.{left_part}

pub stops_window : (s : State) (carry chunk : List ℕ) → Sane s carry chunk → (k : ℕ) (v : Verdict)
    → Stops s.mode s.max s.cap (length (take (s.live - s.off) (drop s.off carry))) (take (s.live - s.off) (drop s.off carry) ++ take (length chunk - s.part) (drop s.part chunk)) k v
    → Stops s.mode s.max s.cap (left_len s) (window s carry chunk) k v
stops_window s carry chunk ok k v st = rw (left_part carry s.off s.live ok.offs, from chunk s.part, left_length s carry chunk ok) at st

pub begins_window : (s : State) (carry chunk : List ℕ) → Sane s carry chunk → Begins (left s carry) (window s carry chunk) (left_len s) (left_len s + (s.chunk - s.part))
begins_window s carry chunk ok = record {
  rest = ahead s chunk;
  joined = refl;
  width = window_length s carry chunk ok;
  side = inl (sym (left_length s carry chunk ok));
}

-- and so with the slice that is lent of it
pub slice_begins_window : (s : State) (carry chunk : List ℕ) → Sane s carry chunk
    → Begins (take (s.live - s.off) (drop s.off carry)) (window s carry chunk) (left_len s) (left_len s + (s.chunk - s.part))
slice_begins_window s carry chunk ok = rw (left_part carry s.off s.live ok.offs) (begins_window s carry chunk ok)
