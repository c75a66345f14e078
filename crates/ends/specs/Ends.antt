-- 01, "Bench set", the listing program: its first line and its last. 02, Ticket 4, adds the setting. Numbers are decimal.
use Rattle.std.specs.Prelude.{ℕ, Bool, true, false, List, [], ◌++◌}
use Rattle.window.specs.declared.Mode.{Mode, TheVariants.{One, Two, Three}}
use Rattle.window.specs.Sync.{has_parity}
use Rattle.text.specs.Text.{ascii}
use Rattle.text.specs.Labels.{labelled, sized}

abbrev pub mode_no : Mode → ℕ
mode_no (One parity) = 1
mode_no (Two parity) = 2
mode_no (Three parity) = 3

-- the setting's word, where RTCM frames are read with parity
abbrev pub setting : Bool → List ℕ
setting true = ascii " parity"
setting false = []

-- the first line: the mode with its setting, MAX and C
abbrev pub header : Mode → ℕ → ℕ → List ℕ
header mode max cap = labelled "mode " (mode_no mode) ++ setting (has_parity mode) ++ labelled " max " max ++ sized " carry " cap

-- the last line: the totals, with the last close's kept
abbrev pub totals : ℕ → ℕ → ℕ → List ℕ
totals used kept lost = labelled "end used " used ++ labelled " kept " kept ++ sized " lost " lost
