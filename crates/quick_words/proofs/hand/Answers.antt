-- `quick_words::hand` meets its contract: the side that has the frame is the chunk where the carry has no bytes left.
use mathlib.Core.Path.{refl, ◌∙◌}
use native.Mathlib.Omega.{arith}
use Rattle.framer.proofs.Handing.{in_carry, hands_chunk, hands_carry}
use Rattle.quick_words.proofs.Written.{leaves_by}
use Rattle.quick_words.proofs.hand.Goals as goal

pub returns-then-s : goal.returns-then-s
returns-then-s c = let x = c.args in let h = c.requires in let d = h.before_value.0 in let t = h.before_value.1 in
    let none = c.if-s.true in
    λ carry chunk.
    leaves_by _ _ _ _ _ _ (hands_chunk x.s x.kind carry chunk (omega arith)) record {
      stepped = c.write_stepped.ensures ∙ rw (d, t);
      told = c.write_hand.ensures ∙ rw (d, t);
      kept = refl;
    }

pub overflow_add-start-2 : goal.overflow_add-start-2
overflow_add-start-2 c = let x = c.args in let h = c.requires in let d = h.before_value.0 in
    omega (arith, in_carry x.s x.kind h.off_le_live.0 c.if-s.false h.kind_bound.1)

pub overflow_add-off : goal.overflow_add-off
overflow_add-off c = let x = c.args in let h = c.requires in let d = h.before_value.0 in let t = h.before_value.1 in
    omega (arith, in_carry x.s x.kind h.off_le_live.0 c.if-s.false h.kind_bound.1)

pub returns : goal.returns
returns c = let x = c.args in let h = c.requires in let d = h.before_value.0 in let t = h.before_value.1 in
    let side = in_carry x.s x.kind h.off_le_live.0 c.if-s.false h.kind_bound.1 in
    λ carry chunk.
    leaves_by _ _ _ _ _ _ (hands_carry x.s x.kind carry chunk side) record {
      stepped = c.write_stepped-2.ensures ∙ rw (d, t);
      told = c.write_hand-2.ensures ∙ rw (d, t);
      kept = refl;
    }
