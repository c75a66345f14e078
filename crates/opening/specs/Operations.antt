-- 01, "Opening, closing, viewing", and starting. Viewing is the crate taking's.
use Rattle.std.specs.Prelude.{ℕ, ◌-◌, min, true, List, length, ltb, Result, Ok, Err, ⊤}
use Rattle.std.proofs.Math.Seq.{paste}
use Rattle.carry.specs.Carry.{drain_carry}
use Rattle.window.specs.declared.Mode.{Mode}
use Rattle.window.specs.Pick.{pick}
use Rattle.window.specs.Sync.{first_sync}
use Rattle.state.specs.declared.State.{State}
use Rattle.state.specs.declared.Refusal.{Refusal, TheVariants.{CarryTooBig}}
use Rattle.state.specs.Words.{left_len, ahead, window, width, fitting, drain, idle}
use Rattle.state.specs.Refusals.{may_open, may_use}
use Rattle.opening.specs.declared.Opened.{Opened}
use Rattle.opening.specs.declared.Closed.{Closed}

-- ---- starting

-- an idle state with C the carry's length; a refused start gives one with C = 0
unfoldable pub start : Mode → ℕ → ℕ → Opened
start mode max carryLen =
    pick (ltb 16384 carryLen) (record { leave = Err CarryTooBig; state = idle mode max 0 0 })
    (record { leave = Ok tt; state = idle mode max carryLen 0 })

-- ---- opening

-- the state made open, with the chunk's length noted and used 0
abbrev pub noted : State → ℕ → State
noted s n = record { mode = s.mode; max = s.max; cap = s.cap; live = s.live; off = s.off; used = 0; «open» = true; chunk = n; part = 0 }

-- drained up to the first sync byte of the mode; if the window has none, nothing is drained
abbrev pub drain_to : ℕ → ℕ → State → State
drain_to i w s = pick (ltb i w) (drain i s) s

abbrev pub open_on : State → List ℕ → List ℕ → Result ⊤ Refusal → Opened
open_on s carry chunk (Err r) = record { leave = Err r; state = s }
open_on s carry chunk (Ok tt) =
    let o = noted s (length chunk) in
    record { leave = Ok tt; state = drain_to (first_sync s.mode (window o carry chunk)) (width o) o }

unfoldable pub opening : State → List ℕ → List ℕ → Opened
opening s carry chunk = open_on s carry chunk (may_open s (length carry) (length chunk))

-- ---- closing

pub record CloseOut : Type 0 where
  pub result : Closed
  pub carry : List ℕ

-- the carry is drained by `off`, then as much of the chunk's rest as fits is copied; a refused close reports all its numbers as 0
abbrev pub close_on : State → List ℕ → List ℕ → Result ⊤ Refusal → CloseOut
close_on s carry chunk (Err r) = record { result = record { leave = Err r; used = 0; kept = 0; lost = 0; state = s }; carry = carry }
close_on s carry chunk (Ok tt) =
    let kept = min (width s) s.cap in
    record {
      result = record { leave = Ok tt; used = s.used; kept = kept; lost = width s - s.cap; state = idle s.mode s.max s.cap kept };
      carry = paste (drain_carry s.off s.live carry) (left_len s) (ahead s chunk) (fitting s (left_len s));
    }

unfoldable pub closing : State → List ℕ → List ℕ → CloseOut
closing s carry chunk = close_on s carry chunk (may_use s (length carry) (length chunk))
