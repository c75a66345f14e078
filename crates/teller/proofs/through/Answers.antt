-- `teller::through` meets its contract: each operation is its definition.
use Rattle.std.proofs.Common.{ap}
use Rattle.opening.specs.declared.Opened.{Opened}
use Rattle.opening.specs.Operations.{opening, closing}
use Rattle.opening.proofs.Determined.{opens_is, closes_is}
use Rattle.teller.specs.Telling.{point_of}
use Rattle.teller.proofs.through.Goals as goal

pub returns : goal.returns
returns g c =
    let x = c.args in
    let a = c.answers in
    let z = c.close in
    let begun = opens_is (opening x.run.now.state x.carry.now x.chunk.now) c.open.result c.open.ensures in
    let e = closes_is (closing a.new.run.state a.new.carry x.chunk.now) z.result z.new.carry z.ensures in
    record {
      text = a.ensures.text;
      last = point_of a.new.run a.new.carry;
      says = rw (ap (λ (y : Opened). y.state) begun) at a.ensures.says;
      state = rw (c.count.ensures, e.0);
      by = rw c.count.ensures;
      used = rw (c.count.ensures, e.0, a.ensures.used);
      kept = rw (c.count.ensures, e.0);
      lost = rw (c.count.ensures, e.0, a.ensures.lost);
      carries = e.1;
      buffer = a.ensures.buffer;
    }
