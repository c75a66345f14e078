-- 01, "The sum" and "Hand-out test", and 02, Ticket 4: what becomes of a look.
use Rattle.std.specs.Prelude.{ℕ, ◌+◌, Bool, true, false, List, length, get_or, take, drop, ltb}
use Rattle.sum.specs.Sum.{sum_of}
use Rattle.parity.specs.Parity.{parity_of, word_of}
use Rattle.window.specs.declared.Mode.{Mode}
use Rattle.window.specs.Pick.{pick}
use Rattle.claim.specs.declared.Kind.{Kind, TheVariants.{Ubx, Rtcm, Sentence}}
use Rattle.claim.specs.declared.Verdict.{Verdict, TheVariants.{Wait, Hand}}
use Rattle.claim.specs.Sizes.{skip, size, back}
use Rattle.claim.specs.Verdicts.{can_hand, judge_sum, judge_parity, lacks}
use Rattle.look.specs.declared.Sight.{Sight, TheVariants.{Pass, Say}}
use Rattle.look.specs.Rules.{Look, need, pass, claim, look}

-- a frame that can be handed out: of UBX the sum decides, which runs over n + 4 bytes from the class on; of RTCM with parity the last
-- three bytes, which must be the parity of the first n + 3
unfoldable pub judge : Kind → List ℕ → Verdict
judge (Ubx class id n) W = judge_sum (get_or W (n + 6) 0) (get_or W (n + 7) 0) (sum_of (take (n + 4) (drop 2 W))) class id n
judge (Rtcm n true) W = judge_parity (word_of (get_or W (n + 3) 0) (get_or W (n + 4) 0) (get_or W (n + 5) 0)) (parity_of (take (n + 3) W)) n
judge (Rtcm n false) W = Hand (Rtcm n false)
judge (Sentence i) W = Hand (Sentence i)

-- what becomes of a look, by the hand-out test (fits) and by w > C (over)
abbrev pub settle : (Kind → Bool) → Bool → List ℕ → Look → Sight
settle fits over W (need k) = Say (Wait k)
settle fits over W (pass y) = Pass y
settle fits over W (claim kind) = Say (pick (fits kind) (judge kind W) (lacks over (back kind) (size kind)))

-- in a step: u bytes of the window lie in the carry
abbrev pub settled : ℕ → ℕ → List ℕ → Look → Sight
settled cap u W l = settle (λ kind. can_hand cap u (length W) (skip kind) (size kind)) (ltb cap (length W)) W l

-- what a step does at the window's front
unfoldable pub step_move : Mode → ℕ → ℕ → ℕ → List ℕ → Sight
step_move mode max cap u W = settled cap u W (look mode max W)
