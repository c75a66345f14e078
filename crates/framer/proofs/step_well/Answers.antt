-- `framer::step_well` meets its contract: where the search stops, the step says what it says.
use Rattle.state.proofs.Window.{left_length}
use Rattle.framer.proofs.Turns.{stops_within, stops_says, stops_step}
use Rattle.framer.proofs.step_well.Goals as goal

pub said-requires : goal.said-requires
said-requires c = let x = c.args.p.now in let s = x.state in let ok = x.ready.sane in
    let st = rw (c.window.ensures.carry_left, c.window.ensures.chunk_ahead, left_length s x.carry.now x.chunk.now ok) at c.seek-stop.ensures in
    record { skip_bound = (stops_within x.carry.now x.chunk.now s ok c.seek-stop.result.skip c.seek-stop.result.verdict st, stops_says x.carry.now x.chunk.now s ok c.seek-stop.result.skip c.seek-stop.result.verdict st) }

pub returns : goal.returns
returns c = let x = c.args.p.now in let s = x.state in let ok = x.ready.sane in
    let st = rw (c.window.ensures.carry_left, c.window.ensures.chunk_ahead, left_length s x.carry.now x.chunk.now ok) at c.seek-stop.ensures in
    rw (stops_step x.carry.now x.chunk.now s ok c.seek-stop.result.skip c.seek-stop.result.verdict st) c.said.ensures
