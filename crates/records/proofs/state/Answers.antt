-- `records::state` meets its contract.
use Rattle.std.proofs.Common.{◌≡◌, ◌+◌, ◌-◌, add-zero, arith}
use Rattle.records.proofs.Laws.{written_out}
use Rattle.records.proofs.state.Goals as goal

pub returns : goal.returns
returns c =
    let nine : c.args.n + 9 - c.args.n ≡ 9 = omega arith in
    let copied = written_out c.args.words.now c.copy_from_slice.new.self c.args.n 9 (rw nine at c.copy_from_slice.ensures.after) (omega (arith, c.told-words)) in
    rw (copied, c.copy_from_slice-2.ensures.after, add-zero)
