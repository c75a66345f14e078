-- A scan never answers no room.
use mathlib.Core.List.{List}
use Prim.Native.Nat.{ℕ, zero, suc, ◌+◌}
use lib.ListN.{length, drop}
use Rattle.window.specs.declared.Mode.{Mode}
use Rattle.window.proofs.Pick.{by_pick}
use Rattle.claim.specs.declared.Verdict.TheVariants.{Wait, Tell, Hand}
use Rattle.look.specs.declared.Sight.{Sight, TheVariants.{Pass, Say}}
use Rattle.look.specs.Rules.{Look, need, pass, claim, look}
use Rattle.stream.specs.Scan.{body, Scan, scan_at, scan_by, scan_sight, scan_move, scan}
use Rattle.stream.specs.Demand.{NeverNoRoom}
use Rattle.stream.proofs.Cases.{Plain, judge_plain, frame_plain}

abbrev PlainSight : Sight → Type 0
PlainSight (Pass y) = Unit {0}
PlainSight (Say v) = Plain v

sight_plain : (W : List ℕ) (l : Look) → PlainSight (scan_sight W l)
sight_plain W (need k) = tt
sight_plain W (pass y) = tt
sight_plain W (claim kind) = by_pick Plain (λ _. judge_plain kind W) (λ _. tt)

turn_plain : (p : ℕ) (W : List ℕ) (m : Sight) → PlainSight m → (on : ℕ → Scan) → ((k : ℕ) → NeverNoRoom (on k).answers) → NeverNoRoom (scan_at p W m on).answers
turn_plain p W (Pass y) h on r = r _
turn_plain p W (Say (Wait k)) h on r = tt
turn_plain p W (Say (Tell t)) h on r = (h, r _)
turn_plain p W (Say (Hand kind)) h on r = (frame_plain kind (body kind W), r _)

scan_plain : (move : List ℕ → Sight) → ((W : List ℕ) → PlainSight (move W)) → (turns p : ℕ) (W : List ℕ) → NeverNoRoom (scan_by move turns p W).answers
scan_plain move h zero p W = tt
scan_plain move h (suc f) p W = turn_plain p W (move W) (h W) (λ k. scan_by move f (p + k) (drop k W)) (λ k. scan_plain move h f (p + k) (drop k W))

pub scan_never : (mode : Mode) (max : ℕ) (stream : List ℕ) → NeverNoRoom (scan mode max stream).answers
unfolding scan scan_move
scan_never mode max stream = scan_plain (scan_move mode max) (λ W. sight_plain W (look mode max W)) (length stream) 0 stream
