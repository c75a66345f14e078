-- What is printed of a part and of a difference.
use Rattle.std.specs.Prelude.{List, ℕ, ◌++◌, codes}
use Rattle.std.specs.Fmt.{decimal}
use Rattle.compare.specs.declared.Difference.{Difference}
use Rattle.compare.specs.declared.Part.{Part, TheVariants.{Out, State, Carry}}

abbrev pub part_text : Part → List ℕ
part_text Out = codes "out word"
part_text State = codes "state word"
part_text Carry = codes "carry byte"

abbrev pub difference_text : Difference → List ℕ
difference_text d =
    part_text d.part ++ (codes " " ++ (decimal d.at ++ (codes " is " ++ (decimal d.is ++ (codes ", recorded " ++ decimal d.recorded)))))
