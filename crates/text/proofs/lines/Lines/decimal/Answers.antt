-- `text::Lines::decimal` meets its contract: what the kit writes are the digits, 20 of them at most.
use Rattle.std.proofs.Common.{◌≡◌, ◌≤◌, take, ◌∙◌, arith}
use Rattle.text.specs.Digits.{decimal}
use Rattle.text.proofs.Digits.{kit_decimal, kit_short}
use Rattle.text.proofs.lines.Lines.decimal.Goals as goal

pub text-requires : goal.text-requires
text-requires c =
    let k = c.decimal-k in
    let short : k.result ≤ 20 = kit_short k.result c.args.n c.ranges.n.fits k.ensures.len in
    omega (arith, k.ensures.in_bounds.1)

pub returns : goal.returns
returns c =
    let k = c.decimal-k in
    let short : k.result ≤ 20 = kit_short k.result c.args.n c.ranges.n.fits k.ensures.len in
    let digits : take k.result k.new.out ≡ decimal c.args.n = k.ensures.digits ∙ kit_decimal k.result c.args.n c.ranges.n.fits k.ensures.len in
    record {
      adds = rw digits at c.text.ensures;
      upper_bound = omega (arith, c.text.ensures.puts.place, k.ensures.in_bounds.1);
    }
