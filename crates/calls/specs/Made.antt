-- What a recorded call hands back by the C functions' own definitions.
use Rattle.std.specs.Prelude.{ℕ, List, ◌∷◌, get_or, length, replicate}
use Rattle.orgnevis.specs.Calls.{Told, starts, opens, steps, closes, views}
use Rattle.calls.specs.declared.Call.{Call, TheVariants.{Start, Open, Step, Close, View, NoCall}}

-- out words of a call that answers a number, and of a step
abbrev pub answer_out : ℕ → List ℕ
answer_out n = n ∷ replicate 15 0

abbrev pub step_out : List ℕ → List ℕ
step_out out =
    get_or out 0 0 ∷ get_or out 1 0 ∷ get_or out 2 0 ∷ get_or out 3 0 ∷ get_or out 4 0 ∷ get_or out 5 0 ∷ get_or out 6 0 ∷ get_or out 7 0 ∷ replicate 8 0

-- a call on a state's words, a carry and a chunk
unfoldable pub made : Call → List ℕ → List ℕ → List ℕ → Told
made (Start mode max) s carry chunk =
    let o = starts s (length carry) mode max in
    record { words = o.words; out = answer_out o.number; carry = carry }
made Open s carry chunk = let o = opens s carry chunk in record { words = o.words; out = answer_out o.number; carry = carry }
made Step s carry chunk =
    let o = steps s carry chunk in
    record { words = o.words; out = step_out o.out; carry = o.carry }
made Close s carry chunk = closes s carry chunk
made (View side start len) s carry chunk =
    record { words = s; out = answer_out (views (length carry) (length chunk) side start len); carry = carry }
made NoCall s carry chunk = record { words = s; out = answer_out 0; carry = carry }
