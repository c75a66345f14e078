-- `look::sentence_claimed` meets its contract.
use mathlib.Core.Path.{sym, ap, ◌∙◌}
use Rattle.window.specs.Window.{bytes}
use Rattle.claim.specs.declared.Kind.TheVariants.{Sentence}
use Rattle.look.specs.declared.Sight.TheVariants.{Say}
use Rattle.look.proofs.Rules.{claim_fits, claim_lacks, judge_sentence}
use Rattle.look.proofs.sentence_claimed.Goals as goal

pub returns-then-can_hand : goal.returns-then-can_hand
returns-then-can_hand c = let x = c.args in
    sym (claim_fits x.cap x.window.carry.now x.window.chunk.now (Sentence x.i) (rw c.len-w.ensures at (sym c.can_hand.ensures ∙ c.if-can_hand.true)) ∙ ap Say (judge_sentence x.i (bytes x.window)))

pub returns : goal.returns
returns c = let x = c.args in
    ap Say (c.lacks.ensures ∙ rw c.len-w.ensures) ∙ sym (claim_lacks x.cap x.window.carry.now x.window.chunk.now (Sentence x.i) (rw c.len-w.ensures at (sym c.can_hand.ensures ∙ c.if-can_hand.false)))
