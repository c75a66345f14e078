-- What is printed of a trouble, behind the record's number.
use Rattle.std.specs.Prelude.{List, ℕ, ◌++◌, codes}
use Rattle.calls.specs.Text.{call_text}
use Rattle.compare.specs.Text.{difference_text}
use Rattle.replaying.specs.declared.Trouble.{Trouble, TheVariants.{Differs, Short, Bad}}

abbrev pub trouble_text : Trouble → List ℕ
trouble_text (Differs call difference) = codes "differs: " ++ (call_text call ++ (codes ", " ++ difference_text difference))
trouble_text Short = codes "is cut short"
trouble_text Bad = codes "is no record"
