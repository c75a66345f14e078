-- What a teller says of a chunk, spelled for the stamps: the steps end where the chunk does.
use Rattle.std.proofs.Common.{ℕ, false, List, ap}
use Rattle.text.specs.declared.lines.Lines.{Lines as Buffer}
use Rattle.teller.specs.declared.Run.{Run}
use Rattle.teller.specs.Words.{Point as Place}
use Rattle.teller.specs.Telling.{Lines, no_line, next_line, Filled, is_whole, Through as Told}
use Rattle.stamper.specs.declared.Stamping.{Stamping}
use Rattle.stamper.specs.Stamping.{Point, Ends, stops, goes, Through, point_at, stamping}

-- steps that go on lead to where those behind them end
on : {before : ℕ} {chunk : List ℕ} {p q : Place Stamping} {text : List ℕ} {r : Point} → Lines stamping before chunk p text q → Ends chunk (point_at q) r → Ends chunk (point_at p) r
on no_line z = z
on (next_line a e) z = on a (goes e z)

ends : {before : ℕ} {chunk : List ℕ} {p q : Place Stamping} {text : List ℕ} → Filled stamping before chunk p false text q → Ends chunk (point_at p) (point_at q)
ends (is_whole a e) = on a (stops e)

pub through : {l r : Run Stamping} {carry chunk carryThen : List ℕ} {b c : Buffer} → Told stamping l carry chunk b r carryThen c → Through l carry chunk b r carryThen c
through t = record {
  last = point_at t.last;
  ends = ends t.says;
  state = t.state;
  clock = ap (λ (x : Stamping). x.clock) t.by;
  tally = ap (λ (x : Stamping). x.tally) t.by;
  used = t.used;
  kept = t.kept;
  lost = t.lost;
  carries = t.carries;
  buffer = t.buffer;
}
