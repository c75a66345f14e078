-- What taking leaves of what is lent, and answers.
use Rattle.std.specs.Prelude.{◌≡◌}
use Rattle.state.specs.declared.lent.Lent.{Lent}
use Rattle.taking.specs.declared.Place.{Place}
use Rattle.taking.specs.Take.{TakeOut}

-- the place, the state then and the carry are these; carry and chunk are the same ones
pub record Takes (o : TakeOut) (old new : Lent) (place : Place) : Type 0 where
  pub value : place ≡ o.result.place
  pub state : new.state ≡ o.result.state
  pub bytes : new.carry.now ≡ o.carry
  pub chunk : new.chunk.now ≡ old.chunk.now
  pub name : new.carry.ghost_name ≡ old.carry.ghost_name
