-- `one` of the stamps meets its contract: the step is its definition; its line says what it brought, and that is counted.
use Rattle.stamp.proofs.Determined.{times_is}
use Rattle.teller.specs.Telling.{point_of}
use Rattle.stamper.specs.Stamping.{point_at, timed}
use Rattle.stamper.proofs.StampingTeller.one.Goals as goal

pub returns : goal.returns
returns c =
    let x = c.args in
    let s = c.step-timed in
    let o = timed x.chunk.now (point_at (point_of x.run.now x.carry.now)) in
    let e = times_is o s.result s.new.carry s.ensures in
    record {
      run = rw (c.tallied-run.ensures, c.noted-note.ensures, e.0);
      carries = e.1;
      adds = rw (c.noted-note.ensures, e.0) at c.line.ensures;
      goes = rw (c.goes_on.ensures, c.noted-note.ensures, e.0);
    }
