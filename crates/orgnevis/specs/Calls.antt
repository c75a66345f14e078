-- What each C function answers and leaves: the operation's own definition, in words. Words that no state has are a bad state (2).
use Rattle.std.specs.Prelude.{ℕ, List, eqb, Option, Some, None}
use Rattle.window.specs.declared.Mode.{Mode}
use Rattle.window.specs.Pick.{pick}
use Rattle.state.specs.declared.State.{State}
use Rattle.state.specs.Refusals.{leave_no}
use Rattle.taking.specs.declared.Side.TheVariants.{Carry, Chunk}
use Rattle.taking.specs.View.{view_leave}
use Rattle.opening.specs.Operations.{start, opening, closing}
use Rattle.framer.specs.Step.{step}
use Rattle.words.specs.Words.{with_state, read_mode, read_state, plain_words, answer_words, report_words, close_words}

-- a number answered, and the state's words
pub record Numbered : Type 0 where
  pub number : ℕ
  pub words : List ℕ

-- a mode's number that isn't one is answered by 8, and nothing is written
abbrev pub start_read : List ℕ → ℕ → ℕ → Option Mode → Numbered
start_read words carryLen max None = record { number = 8; words = words }
start_read words carryLen max (Some mode) = let o = start mode max carryLen in record { number = leave_no o.leave; words = with_state o.state words }

unfoldable pub starts : List ℕ → ℕ → ℕ → ℕ → Numbered
starts words carryLen mode max = start_read words carryLen max (read_mode mode)

abbrev pub open_read : List ℕ → List ℕ → List ℕ → Option State → Numbered
open_read words carry chunk None = record { number = 2; words = words }
open_read words carry chunk (Some s) = let o = opening s carry chunk in record { number = leave_no o.leave; words = with_state o.state words }

unfoldable pub opens : List ℕ → List ℕ → List ℕ → Numbered
opens words carry chunk = open_read words carry chunk (read_state words)

-- the state's words, the words told, and the carry's bytes
pub record Told : Type 0 where
  pub words : List ℕ
  pub out : List ℕ
  pub carry : List ℕ

abbrev pub step_read : List ℕ → List ℕ → List ℕ → Option State → Told
step_read words carry chunk None = record { words = words; out = plain_words 7 0 2 0; carry = carry }
step_read words carry chunk (Some s) =
    let o = step s carry chunk in
    record { words = with_state o.result.state words; out = answer_words o.result.answer; carry = o.carry }

unfoldable pub steps : List ℕ → List ℕ → List ℕ → Told
steps words carry chunk = step_read words carry chunk (read_state words)

abbrev pub close_read : List ℕ → List ℕ → List ℕ → Option State → Told
close_read words carry chunk None = record { words = words; out = report_words 2 0 0 0; carry = carry }
close_read words carry chunk (Some s) =
    let o = closing s carry chunk in
    record { words = with_state o.result.state words; out = close_words o.result; carry = o.carry }

unfoldable pub closes : List ℕ → List ℕ → List ℕ → Told
closes words carry chunk = close_read words carry chunk (read_state words)

-- a side's number is 0 for the carry and 1 for the chunk; a place on no side is a bad place
unfoldable pub views : ℕ → ℕ → ℕ → ℕ → ℕ → ℕ
views carryLen chunkLen side start len =
    pick (eqb side 0) (leave_no (view_leave (record { side = Carry; start = start; len = len }) carryLen))
    (pick (eqb side 1) (leave_no (view_leave (record { side = Chunk; start = start; len = len }) chunkLen))
    7)
