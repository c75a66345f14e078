-- 01, "The sum" and "Hand-out test", and 02, Ticket 4: whether a claimed frame can be handed out, and what is said of it.
use Rattle.std.specs.Prelude.{ℕ, ◌+◌, ◌-◌, Bool, true, false, not, ◌&&◌, ◌||◌, ltb, leb, eqb}
use Rattle.sum.specs.declared.Sums.{Sums}
use Rattle.sum.specs.Sum.{pair_of}
use Rattle.window.specs.Pick.{pick}
use Rattle.claim.specs.declared.Kind.TheVariants.{Ubx, Rtcm}
use Rattle.claim.specs.declared.Tale.{Tale, TheVariants.{WrongSum, WrongParity, NoRoom}}
use Rattle.claim.specs.declared.Verdict.{Verdict, TheVariants.{Wait, Tell, Hand}}

-- the hand-out test (drain d, take t) where u of the window's w bytes lie in the carry: at least d + t bytes in the window
-- and, if after draining the t bytes lie on both sides, t ≤ C
abbrev pub can_hand : ℕ → ℕ → ℕ → ℕ → ℕ → Bool
can_hand cap u w d t = leb (d + t) w && (not (ltb 0 (u - d) && ltb (u - d) t) || leb t cap)

-- what is drained with an answer that hands out no bytes
abbrev pub cost : Tale → ℕ
cost (WrongSum class id n expect got) = 2
cost (WrongParity expect got) = 1
cost (NoRoom drain size) = drain

-- the two bytes after the payload, and the sum: a wrong one is told with class, id and length of the head, with expect, the received
-- pair, and got, the computed one
abbrev pub judge_sum : ℕ → ℕ → Sums → ℕ → ℕ → ℕ → Verdict
judge_sum a b got class id n =
    pick (eqb a got.a && eqb b got.b) (Hand (Ubx class id n))
    (Tell (WrongSum class id n (pair_of a b) (pair_of got.a got.b)))

-- the parity behind a message: a wrong one is told with expect, the received one, and got, the computed one
abbrev pub judge_parity : ℕ → ℕ → ℕ → Verdict
judge_parity expect got n = pick (eqb expect got) (Hand (Rtcm n true)) (Tell (WrongParity expect got))

-- a frame that can't be handed out: if w > C (over), no room; else need more
abbrev pub lacks : Bool → ℕ → ℕ → Verdict
lacks true drain size = Tell (NoRoom drain size)
lacks false drain size = Wait 0
