-- 01, "One step", rule 4: a sentence's end mark.
use Rattle.std.specs.Prelude.{ℕ, suc, ◌&&◌, List, [], ◌∷◌, Option, Some, None, eqb}
use Rattle.window.specs.Pick.{pick}

-- the place of the first CR that is followed at once by LF, the list's own first place being i
unfoldable pub end_mark : ℕ → List ℕ → Option ℕ
end_mark i [] = None
end_mark i (x ∷ []) = None
end_mark i (x ∷ y ∷ ys) = pick (eqb x 0x0D && eqb y 0x0A) (Some i) (end_mark (suc i) (y ∷ ys))
