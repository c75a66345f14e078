-- What starting, opening and closing promise, as equalities with 01's definitions: a refusal by its number, the next state, and
-- of a close what it reports and every byte of the carry.
use Rattle.std.specs.Prelude.{◌≡◌, ℕ, List}
use Rattle.state.specs.Refusals.{leave_no}
use Rattle.opening.specs.declared.Opened.{Opened}
use Rattle.opening.specs.declared.Closed.{Closed}
use Rattle.opening.specs.Operations.{CloseOut}

-- starting and opening; neither can write
pub record Opens (is r : Opened) : Type 0 where
  pub refusal : leave_no r.leave ≡ leave_no is.leave
  pub state : r.state ≡ is.state

pub record Closes (is : CloseOut) (r : Closed) (carry : List ℕ) : Type 0 where
  pub refusal : leave_no r.leave ≡ leave_no is.result.leave
  pub used : r.used ≡ is.result.used
  pub kept : r.kept ≡ is.result.kept
  pub lost : r.lost ≡ is.result.lost
  pub state : r.state ≡ is.result.state
  pub bytes : carry ≡ is.carry
