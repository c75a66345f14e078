-- `state::window_of` meets its contract: `&carry[off..live]` and `&chunk[part..]` are what is left of the carry and of the chunk.
use Rattle.window.proofs.Laws.{from}
use Rattle.state.proofs.Window.{left_part}
use Rattle.state.proofs.window_of.Goals as goal

pub returns : goal.returns
returns c = let x = c.args in let s = x.s in
    record { carry_left = left_part x.carry.now s.off s.live c.requires.offs; chunk_ahead = from x.chunk.now s.part }
