-- What is said of a record's call: the same exactly where it hands back what the record says.
use Rattle.std.specs.Prelude.{ℕ, ◌≡◌, List, Option, Some, Result, Ok}
use Rattle.records.specs.Words.{state_of, out_of}
use Rattle.calls.specs.declared.Call.{Call}
use Rattle.calls.specs.Made.{made}
use Rattle.replaying.specs.declared.Trouble.{Trouble}

-- the record's call hands back what the record says
pub record AsRecorded (call : Call) (words carry chunk recorded : List ℕ) : Type 0 where
  pub same_out : (made call (state_of words 6) carry chunk).out ≡ out_of words
  pub same_state : (made call (state_of words 6) carry chunk).words ≡ state_of words 15
  pub same_carry : (made call (state_of words 6) carry chunk).carry ≡ recorded

-- the same is said exactly of such a call
pub record Replayed (turn : Result (Option Call) Trouble) (call : Call) (words carry chunk recorded : List ℕ) : Type 0 where
  pub sound : turn ≡ Ok (Some call) → AsRecorded call words carry chunk recorded
  pub whole : AsRecorded call words carry chunk recorded → turn ≡ Ok (Some call)
