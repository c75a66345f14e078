-- In every mode, what hands out no bytes goes on by one byte, or by two, and the byte jumped is then 62.
use mathlib.Core.Path.{◌≡◌, refl}
use mathlib.Core.Bool.{Bool, true, false}
use mathlib.Core.List.{List, [], ◌∷◌}
use Prim.Native.Nat.{ℕ, ◌<◌}
use native.Mathlib.Omega.{arith}
use lib.ListN.{get_or}
use borrow.Author.Tests.{eqb-true, not-false}
use Rattle.std.specs.Prelude.{Option, Some, None}
use Rattle.window.specs.declared.Mode.{Mode}
use Rattle.window.specs.Sync.{has_parity}
use Rattle.window.specs.EndMark.{end_mark}
use Rattle.window.proofs.Pick.{by_pick}
use Rattle.claim.specs.declared.Kind.{Kind, TheVariants.{Ubx, Rtcm, Sentence}}
use Rattle.look.specs.declared.Sight.TheVariants.{Say}
use Rattle.look.specs.Rules.{far, Look, need, pass, claim, look_ubx, look_rtcm, end_at, look_nmea, look}
use Rattle.look.specs.Moves.{judge}
use Rattle.stream.specs.Scan.{scan_sight, scan_move}
use Rattle.stream.proofs.Lost.{Hops}

-- a UBX claim stands at B5 62
abbrev Marked : List ℕ → Kind → Type 0
Marked W (Ubx class id n) = get_or W 1 0 ≡ 0x62
Marked W (Rtcm n parity) = Unit {0}
Marked W (Sentence i) = Unit {0}

abbrev LookHops : List ℕ → Look → Type 0
LookHops W (need k) = Unit {0}
LookHops W (pass y) = 1 < far y → (far y ≡ 2) × (get_or W 1 0 ≡ 0x62)
LookHops W (claim kind) = Marked W kind

ubx_hops : (max : ℕ) (W : List ℕ) → LookHops W (look_ubx max W)
unfolding look_ubx
ubx_hops max W =
    let P : Look → Type 0 = LookHops W in
    by_pick P (λ _. tt)
    (λ _. by_pick P (λ _ h. absurd (omega arith))
    (λ t. let pair : get_or W 1 0 ≡ 0x62 = eqb-true (get_or W 1 0) 0x62 (not-false _ t) in
    by_pick P (λ _. tt) (λ _. by_pick P (λ _ h. (refl, pair)) (λ _. pair))))

rtcm_hops : (parity : Bool) (W : List ℕ) → LookHops W (look_rtcm parity W)
unfolding look_rtcm
rtcm_hops parity W = by_pick (LookHops W) (λ _. tt) (λ _. tt)

end_hops : (mode : Mode) (W : List ℕ) (f : Option ℕ) → LookHops W (end_at mode W f)
end_hops mode W (Some i) = tt
end_hops mode W None = by_pick (LookHops W) (λ _. tt) (λ _. by_pick (LookHops W) (λ _. tt) (λ _. tt))

look_hops : (mode : Mode) (max : ℕ) (W : List ℕ) → LookHops W (look mode max W)
unfolding look look_nmea
look_hops mode max [] = tt
look_hops mode max (b ∷ bs) =
    let W : List ℕ = b ∷ bs in
    let P : Look → Type 0 = LookHops W in
    by_pick P
    (λ _. by_pick P (λ _. ubx_hops max W)
    (λ _. by_pick P (λ _. rtcm_hops (has_parity mode) W)
    (λ _. by_pick P (λ _. tt) (λ _. end_hops mode W (end_mark 0 W)))))
    (λ _ h. absurd (omega arith))

judge_hops : (kind : Kind) (W : List ℕ) → Marked W kind → Hops W (Say (judge kind W))
unfolding judge
judge_hops (Ubx class id n) W h = by_pick (λ v. Hops W (Say v)) (λ _. tt) (λ _ _. (refl, h))
judge_hops (Rtcm n true) W h = by_pick (λ v. Hops W (Say v)) (λ _. tt) (λ _ h. absurd (omega arith))
judge_hops (Rtcm n false) W h = tt
judge_hops (Sentence i) W h = tt

sight_hops : (W : List ℕ) (l : Look) → LookHops W l → Hops W (scan_sight W l)
sight_hops W (need k) h = tt
sight_hops W (pass y) h = h
sight_hops W (claim kind) h = by_pick (λ v. Hops W (Say v)) (λ _. judge_hops kind W h) (λ _. tt)

pub scan_hops : (mode : Mode) (max : ℕ) (W : List ℕ) → Hops W (scan_move mode max W)
unfolding scan_move
scan_hops mode max W = sight_hops W (look mode max W) (look_hops mode max W)
