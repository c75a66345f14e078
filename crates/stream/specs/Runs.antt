-- Demand 3's runs: each chunk stepped until "need more", then closed, with refused calls anywhere between.
use Rattle.std.specs.Prelude.{◌≡◌, ℕ, Bool, true, false, List, [], ◌∷◌, ◌++◌}
use Rattle.taking.specs.declared.Place.{Place}
use Rattle.framer.specs.Reached.{is_need_more}
use Rattle.stream.specs.Calls.{Parser, Arg, own, Call, opens, steps, closes, views, step_given, after, refused}

-- where the caller stands: between chunks; within one, which is open; through with one, of which need more was said
pub data Phase : Type 0 where
  between : Phase
  within : List ℕ → Phase
  through : List ℕ → Phase

abbrev pub needs_more : List ℕ → Parser → Bool
needs_more chunk p = is_need_more (step_given p own own chunk).result.answer

-- the calls put the chunks through the parser, with its own state and the carry as the calls left them
pub data Follows : Phase → Parser → List Call → List (List ℕ) → Type 0 where
  done : {p : Parser} → Follows between p [] []
  opened : {p : Parser} {c : List ℕ} {ks : List Call} {cs : List (List ℕ)} → refused (opens own own c) p ≡ false
      → Follows (within c) (after (opens own own c) p) ks cs → Follows between p (opens own own c ∷ ks) (c ∷ cs)
  stepped : {p : Parser} {c : List ℕ} {ks : List Call} {cs : List (List ℕ)} → refused (steps own own c) p ≡ false → needs_more c p ≡ false
      → Follows (within c) (after (steps own own c) p) ks cs → Follows (within c) p (steps own own c ∷ ks) cs
  spent : {p : Parser} {c : List ℕ} {ks : List Call} {cs : List (List ℕ)} → refused (steps own own c) p ≡ false → needs_more c p ≡ true
      → Follows (through c) (after (steps own own c) p) ks cs → Follows (within c) p (steps own own c ∷ ks) cs
  closed : {p : Parser} {c : List ℕ} {ks : List Call} {cs : List (List ℕ)} → refused (closes own own c) p ≡ false
      → Follows between (after (closes own own c) p) ks cs → Follows (through c) p (closes own own c ∷ ks) cs
  -- anywhere: a refused call of any operation with any arguments, and any view
  refusal : {ph : Phase} {p : Parser} {k : Call} {ks : List Call} {cs : List (List ℕ)} → refused k p ≡ true
      → Follows ph (after k p) ks cs → Follows ph p (k ∷ ks) cs
  viewed : {ph : Phase} {p : Parser} {m : Arg (List ℕ)} {c : List ℕ} {place : Place} {ks : List Call} {cs : List (List ℕ)}
      → Follows ph (after (views m c place) p) ks cs → Follows ph p (views m c place ∷ ks) cs

-- the joined stream
abbrev pub joined : List (List ℕ) → List ℕ
joined [] = []
joined (c ∷ cs) = c ++ joined cs
