-- `records::out` meets its contract.
use Rattle.std.proofs.Common.{arith}
use Rattle.records.proofs.Laws.{written_out}
use Rattle.records.proofs.out.Goals as goal

pub returns : goal.returns
returns c =
    let copied = written_out c.args.words.now c.copy_from_slice.new.self 24 8 c.copy_from_slice.ensures.after (omega (arith, c.told-words)) in rw copied
