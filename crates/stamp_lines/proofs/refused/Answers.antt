-- `stamp_lines::refused` meets its contract: each refusal's words.
use Rattle.std.proofs.Common.{◌≡◌}
use Rattle.stamp_lines.specs.Lines.{refused}
use Rattle.stamp_lines.proofs.refused.Goals as goal
use Rattle.stamp_lines.proofs.refused.Goals.{in-NotThisMessage, in-NotValid, in-Field}

pub returns : goal.returns
returns c =
    let words : c.match-fault.words.now ≡ refused c.args.fault = elim c.match-fault.branch [
      | in-NotThisMessage w ↦ cc
      | in-NotValid w ↦ cc
      | in-Field w ↦ cc
    ] in
    rw words at c.text.ensures
