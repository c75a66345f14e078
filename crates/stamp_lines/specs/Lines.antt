-- The lines of `stamps`: one for each frame of class 01 and id 21, and the totals. Numbers are decimal.
use Rattle.std.specs.Prelude.{ℕ, List, [], ◌++◌, Result, Ok, Err}
use Rattle.text.specs.Text.{ascii}
use Rattle.text.specs.Labels.{labelled, sized, here}
use Rattle.stamp.specs.declared.Fault.{Fault, TheVariants.{NotThisMessage, NotValid, Field}}
use Rattle.stamp.specs.declared.Reading.{Reading, TheVariants.{Stamp, BackBy}}
use Rattle.stamp_lines.specs.declared.Note.{Note, TheVariants.{Time, Other, Sum, Passed, End}}
use Rattle.stamp_lines.specs.declared.Tally.{Tally}

-- what stands behind the position
abbrev pub refused : Fault → List ℕ
refused NotThisMessage = ascii " refused not this message\n"
refused NotValid = ascii " refused not valid\n"
refused Field = ascii " refused field\n"

abbrev pub said : Result Reading Fault → List ℕ
said (Ok (Stamp t)) = sized " stamp " t
said (Ok (BackBy d)) = sized " back by " d
said (Err f) = refused f

-- only a time frame has a line; `before` is what earlier closes reported as used
abbrev pub line : ℕ → Note → List ℕ
line before (Time p reading) = here before p ++ said reading
line before Other = []
line before Sum = []
line before Passed = []
line before End = []

-- the last line: lines of each kind, UBX frames without one, wrong sums; used and lost of all closes, and the last close's kept
abbrev pub tallies : Tally → List ℕ
tallies t = labelled "end stamps " t.stamps ++ labelled " back " t.back ++ labelled " refused " t.refused ++ labelled " other " t.other ++ labelled " sums " t.sums

abbrev pub totals : Tally → ℕ → ℕ → ℕ → List ℕ
totals t used kept lost = tallies t ++ labelled " used " used ++ labelled " kept " kept ++ sized " lost " lost
