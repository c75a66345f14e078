-- `quick_words::bring` meets its contract: the chunk's rest goes behind the live bytes.
use mathlib.Core.Path.{◌∙◌}
use Rattle.quick_words.proofs.Written.{leaves_by, hands_grow}
use Rattle.quick_words.proofs.bring.Goals as goal

pub returns-clause-leaves : goal.returns-clause-leaves
returns-clause-leaves c = let x = c.args in let z = x.p.now in let h = c.requires in let d = h.before_value.0 in let t = h.before_value.1 in let lies = h.kind_bound.1 in
    let taken = c.take_grow-taken.ensures in
    leaves_by _ _ _ _ _ _ (hands_grow z.state x.kind z.carry.now z.chunk.now lies.0 lies.1.0 lies.1.1) record {
      stepped = c.write_stepped.ensures ∙ rw (taken.value, d, t);
      told = c.write_hand.ensures ∙ rw (taken.value, d, t);
      kept = taken.carry_after;
    }
