-- The digits before the last are one fewer.
use Rattle.text.proofs.lines.Lines.+hex.Given as goal

abbrev pub decreases-hex : goal.decreases-hex
decreases-hex l = l.places
