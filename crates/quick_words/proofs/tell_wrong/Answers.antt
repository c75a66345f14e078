-- `quick_words::tell_wrong` meets its contract: two bytes are drained.
use mathlib.Core.Path.{refl, ◌∙◌}
use Rattle.quick_words.proofs.tell_wrong.Goals as goal

pub returns : goal.returns
returns c = λ carry chunk. record {
  stepped = c.write_stepped.ensures ∙ rw c.drained-next.ensures;
  told = c.write_wrong.ensures ∙ rw (c.word.ensures, c.word-2.ensures);
  kept = refl;
}
