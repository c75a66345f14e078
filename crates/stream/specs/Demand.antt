-- Demand 3: every cutting gives the scan.
use Rattle.std.specs.Prelude.{◌≡◌, ℕ, ◌+◌, ◌≤◌, Bool, true, false, List, [], ◌∷◌, length, take}
use Rattle.window.specs.declared.Mode.{Mode, TheVariants.{One, Two, Three}}
use Rattle.claim.specs.Sizes.{around}
use Rattle.opening.specs.Operations.{start}
use Rattle.stream.specs.Scan.{Said, ubx_frame, rtcm_frame, sentence, wrong_sum, wrong_parity, no_room, Event, scan}
use Rattle.stream.specs.Calls.{Parser, Call, after_all, hears_all, loses_all}
use Rattle.stream.specs.Runs.{between, Follows, joined}

-- UBX mode, or UBX with RTCM; a carry of at least the payload limit plus 7 (with RTCM, also at least the longest RTCM frame: 1,026,
-- and with parity 1,029)
abbrev pub Roomy : Mode → ℕ → ℕ → Type 0
Roomy (One parity) max cap = max + 7 ≤ cap
Roomy (Two parity) max cap = (max + 7 ≤ cap) × (1023 + around parity ≤ cap)
Roomy (Three parity) max cap = ⊥

-- a fresh parser on this carry
abbrev pub fresh : Mode → ℕ → List ℕ → Parser
fresh mode max carry = record { state = (start mode max (length carry)).state; carry = carry; base = 0 }

-- chunks of at most 16,384 bytes
abbrev pub Short : List (List ℕ) → Type 0
Short [] = Unit {0}
Short (c ∷ cs) = (length c ≤ 16384) × Short cs

-- what the carry holds
abbrev pub holds : Parser → List ℕ
holds p = take p.state.live p.carry

abbrev pub is_no_room : Said → Bool
is_no_room (ubx_frame class id body) = false
is_no_room (rtcm_frame body) = false
is_no_room (sentence body) = false
is_no_room (wrong_sum class id n expect got) = false
is_no_room (wrong_parity expect got) = false
is_no_room (no_room size) = true

abbrev pub NeverNoRoom : List Event → Type 0
NeverNoRoom [] = Unit {0}
NeverNoRoom (e ∷ es) = (is_no_room e.said ≡ false) × NeverNoRoom es

-- the answers, bodies taken as bytes, and their stream positions are those of the scan; no answer is "no room"; nothing is lost;
-- the carry ends holding exactly the scan's unfinished tail, which begins where the closes' used bytes end
pub record CutFree (mode : Mode) (max : ℕ) (p : Parser) (calls : List Call) (stream : List ℕ) : Type 0 where
  pub answers : hears_all calls p ≡ (scan mode max stream).answers
  pub no_room : NeverNoRoom (hears_all calls p)
  pub lost : loses_all calls p ≡ 0
  pub tail : holds (after_all calls p) ≡ (scan mode max stream).tail
  pub tail_at : (after_all calls p).base ≡ (scan mode max stream).tail_at

-- and such a carry is as long as any tail: a frame that is waited for is waited for so long at most
abbrev pub TailFitsTheCarry : Type 0
TailFitsTheCarry = (mode : Mode) (max cap : ℕ) → Roomy mode max cap → (stream : List ℕ) → length (scan mode max stream).tail ≤ cap

-- whatever the calls that put the chunks through a fresh parser
abbrev pub EveryCuttingGivesTheScan : Type 0
EveryCuttingGivesTheScan =
    (mode : Mode) (max : ℕ) (carry : List ℕ) → Roomy mode max (length carry) → length carry ≤ 16384
    → (calls : List Call) (chunks : List (List ℕ)) → Follows between (fresh mode max carry) calls chunks
    → CutFree mode max (fresh mode max carry) calls (joined chunks)

-- and calls that do so exist, however the stream is cut, in every mode and for every carry
abbrev pub EveryCuttingHasARun : Type 0
EveryCuttingHasARun =
    (mode : Mode) (max : ℕ) (carry : List ℕ) → length carry ≤ 16384 → (chunks : List (List ℕ)) → Short chunks
    → (calls : List Call) × Follows between (fresh mode max carry) calls chunks
