-- `carry::extend_by_blocks` meets its contract: the first `copied` bytes have been copied, and a turn's block goes on from there.
use native.Mathlib.Omega.{arith}
use Rattle.carry.proofs.Laws.{paste_block}
use Rattle.carry.proofs.extend_by_blocks.Goals as goal

pub loop-copied-preserved : goal.loop-copied-preserved
loop-copied-preserved c =
    let x = c.args in
    let at = c.loop-copied in
    let start = c.min-start.result in (
      omega arith,
      rw (c.put_block.ensures, c.block_at.ensures, at.invariant.1)
          (paste_block x.carry.now x.live x.from.now at.copied start 32 (omega arith) (omega arith) (omega arith) (omega arith)),
    )
