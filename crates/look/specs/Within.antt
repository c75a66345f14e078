-- Staying within a window of w bytes, of which u lie in the carry: what a look and what is said of it may drain and hand out.
use Rattle.std.specs.Prelude.{ℕ, ◌+◌, ◌-◌, ◌≤◌, ◌<◌}
use Rattle.claim.specs.declared.Kind.{Kind}
use Rattle.claim.specs.declared.Verdict.{Verdict, TheVariants.{Wait, Tell, Hand}}
use Rattle.claim.specs.Sizes.{skip, size}
use Rattle.claim.specs.Verdicts.{cost}
use Rattle.look.specs.declared.Sight.{Sight, TheVariants.{Pass, Say}}
use Rattle.look.specs.Rules.{far}

-- the whole frame, with what is drained before its body
abbrev pub whole : Kind → ℕ
whole kind = skip kind + size kind

-- what is said drains no more than there is, and a frame to hand out has passed the hand-out test
abbrev pub Says : ℕ → ℕ → ℕ → Verdict → Type 0
Says cap u w (Wait k) = k ≤ w
Says cap u w (Tell t) = (0 < cost t) × (cost t ≤ w)
Says cap u w (Hand kind) = (0 < whole kind) × (whole kind ≤ w) × (0 < u - skip kind → u - skip kind < size kind → size kind ≤ cap)

abbrev pub Moves : ℕ → ℕ → ℕ → Sight → Type 0
Moves cap u w (Pass y) = (0 < far y) × (far y ≤ w)
Moves cap u w (Say v) = Says cap u w v
