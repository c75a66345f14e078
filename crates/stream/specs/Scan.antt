-- 01, "The scan of a whole stream".
use Rattle.std.specs.Prelude.{ℕ, zero, suc, ◌+◌, Bool, false, List, [], ◌∷◌, length, take, drop, leb}
use Rattle.window.specs.declared.Mode.{Mode, TheVariants.{One, Two, Three}}
use Rattle.claim.specs.declared.Kind.{Kind, TheVariants.{Ubx, Rtcm, Sentence}}
use Rattle.claim.specs.declared.Tale.{Tale, TheVariants.{WrongSum, WrongParity, NoRoom}}
use Rattle.claim.specs.declared.Verdict.TheVariants.{Wait, Tell, Hand}
use Rattle.claim.specs.Sizes.{skip, size}
use Rattle.claim.specs.Verdicts.{cost}
use Rattle.look.specs.declared.Sight.{Sight, TheVariants.{Pass, Say}}
use Rattle.look.specs.Rules.{far, Look, look}
use Rattle.look.specs.Moves.{settle}
use Rattle.look.specs.Within.{whole}

-- ---- an answer as it is compared: by kind, class, id, sums, parities and the bytes viewed, at its stream position

pub data Said : Type 0 where
  -- class, id, and the body: payload and two check bytes
  ubx_frame : ℕ → ℕ → List ℕ → Said
  rtcm_frame : List ℕ → Said
  sentence : List ℕ → Said
  -- class, id and length, expect and got
  wrong_sum : ℕ → ℕ → ℕ → ℕ → ℕ → Said
  -- expect and got
  wrong_parity : ℕ → ℕ → Said
  -- the size there is no room for
  no_room : ℕ → Said

pub record Event : Type 0 where
  pub at : ℕ
  pub said : Said

abbrev pub frame_said : Kind → List ℕ → Said
frame_said (Ubx class id n) body = ubx_frame class id body
frame_said (Rtcm n parity) body = rtcm_frame body
frame_said (Sentence i) body = sentence body

abbrev pub tale_said : Tale → Said
tale_said (WrongSum class id n expect got) = wrong_sum class id n expect got
tale_said (WrongParity expect got) = wrong_parity expect got
tale_said (NoRoom drain size) = no_room size

-- ---- what stands at one position, where W is the stream from there on

abbrev pub is_whole : List ℕ → Kind → Bool
is_whole W kind = leb (whole kind) (length W)

-- rules 1 to 3 as they are; a whole frame is always handed out, an incomplete one needs more
abbrev pub scan_sight : List ℕ → Look → Sight
scan_sight W l = settle (is_whole W) false W l

unfoldable pub scan_move : Mode → ℕ → List ℕ → Sight
scan_move mode max W = scan_sight W (look mode max W)

abbrev pub body : Kind → List ℕ → List ℕ
body kind W = take (size kind) (drop (skip kind) W)

-- ---- the scan

-- the answers, and the unfinished tail with its position
pub record Scan : Type 0 where
  pub answers : List Event
  pub tail_at : ℕ
  pub tail : List ℕ

abbrev pub ended : ℕ → List ℕ → Scan
ended p W = record { answers = []; tail_at = p; tail = W }

abbrev pub answered : ℕ → Said → Scan → Scan
answered p x rest = record { answers = record { at = p; said = x } ∷ rest.answers; tail_at = rest.tail_at; tail = rest.tail }

-- from position p: "drain k" is read as on to p + k, and `on k` is the scan from there; what needs more ends the scan, with
-- the bytes from p as unfinished tail
abbrev pub scan_at : ℕ → List ℕ → Sight → (ℕ → Scan) → Scan
scan_at p W (Pass y) on = on (far y)
scan_at p W (Say (Wait k)) on = ended p W
scan_at p W (Say (Tell t)) on = answered p (tale_said t) (on (cost t))
scan_at p W (Say (Hand kind)) on = answered p (frame_said kind (body kind W)) (on (whole kind))

-- by any moves. Each turn goes on by a byte at least, so as many turns as bytes reach the end of the stream, where the tail is empty
abbrev pub scan_by : (List ℕ → Sight) → ℕ → ℕ → List ℕ → Scan
scan_by move zero p W = ended p W
scan_by move (suc turns) p W = scan_at p W (move W) (λ k. scan_by move turns (p + k) (drop k W))

abbrev pub scan_from : (List ℕ → Sight) → ℕ → List ℕ → Scan
scan_from move p W = scan_by move (length W) p W

unfoldable pub scan : Mode → ℕ → List ℕ → Scan
scan mode max stream = scan_from (scan_move mode max) 0 stream

-- of modes one and two; mode three has no such scan, and no law speaks of one
abbrev pub HasScan : Mode → Type 0
HasScan (One parity) = Unit {0}
HasScan (Two parity) = Unit {0}
HasScan (Three parity) = ⊥
