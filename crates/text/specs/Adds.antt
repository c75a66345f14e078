-- Text put behind what stands in a lent buffer.
use Rattle.std.specs.Prelude.{◌≡◌, ℕ, List, length}
use Rattle.text.specs.Text.{Puts}
use Rattle.text.specs.declared.lines.Lines.{Lines}

-- the buffer is the same one; what stands in it may have changed
pub record SameBuffer (l m : Lines) : Type 0 where
  pub size : length m.out.now ≡ length l.out.now
  pub name : m.out.ghost_name ≡ l.out.ghost_name

-- the text was put behind the bytes there, and all other bytes stay
pub record Adds (text : List ℕ) (l m : Lines) : Type 0 where
  pub puts : Puts text l.out.now l.len m.out.now m.len
  pub buffer : SameBuffer l m
