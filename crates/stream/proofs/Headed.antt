-- What is said of an RTCM frame, in the scan and in a step, comes of a D3 whose head names its length, in a mode that reads RTCM and in its
-- setting; with parity the last three bytes decide. In modes one and two no sentence is said.
use mathlib.Core.Path.{◌≡◌, refl}
use mathlib.Core.Bool.{Bool, true, false}
use mathlib.Core.List.{List, [], ◌∷◌}
use Prim.Native.Nat.{ℕ, ◌+◌, ◌*◌, ◌%◌, ◌≤◌}
use native.Mathlib.Omega.{arith}
use lib.ListN.{length, get_or, take}
use lib.Dec.{ltb}
use borrow.Author.Tests.{leb-true, eqb-true, eqb-false}
use Rattle.std.specs.Prelude.{Option, Some, None}
use Rattle.parity.specs.Parity.{parity_of, word_of}
use Rattle.window.specs.declared.Mode.{Mode}
use Rattle.window.specs.Sync.{has_parity, is_sync}
use Rattle.window.specs.EndMark.{end_mark}
use Rattle.window.proofs.Pick.{by_pick}
use Rattle.claim.specs.declared.Kind.{Kind, TheVariants.{Ubx, Rtcm, Sentence}}
use Rattle.claim.specs.declared.Tale.{TheVariants.{WrongSum, WrongParity, NoRoom}}
use Rattle.claim.specs.declared.Verdict.{Verdict, TheVariants.{Wait, Tell, Hand}}
use Rattle.claim.specs.Sizes.{skip, size, back}
use Rattle.claim.specs.Verdicts.{can_hand, lacks}
use Rattle.look.specs.declared.Sight.{Sight, TheVariants.{Pass, Say}}
use Rattle.look.specs.Rules.{Look, need, pass, claim, look_ubx, look_rtcm, end_at, look_nmea, look}
use Rattle.look.specs.Moves.{judge, settle, step_move}
use Rattle.look.specs.Within.{whole}
use Rattle.look.proofs.Rules.{hand_whole}
use Rattle.stream.specs.Scan.{rtcm_frame, sentence, wrong_parity, Event, body, is_whole, scan_move, HasScan}
use Rattle.stream.proofs.Walks.{SaidBy, by_tale, by_frame}
use Rattle.stream.proofs.Modes.{no_other}

-- the head: D3, and the length in the low 10 bits of bytes 1 and 2
pub record Headed (mode : Mode) (W : List ℕ) (n : ℕ) (parity : Bool) : Type 0 where
  pub front : get_or W 0 0 ≡ 0xD3
  pub counts : n ≡ (256 * get_or W 1 0 + get_or W 2 0) % 1024
  pub setting : parity ≡ has_parity mode
  pub reads : is_sync mode 0xD3 ≡ true

-- the last three bytes, and the parity of all before them
abbrev pub received : List ℕ → ℕ → ℕ
received W n = word_of (get_or W (n + 3) 0) (get_or W (n + 4) 0) (get_or W (n + 5) 0)

abbrev pub computed : List ℕ → ℕ → ℕ
computed W n = parity_of (take (n + 3) W)

abbrev Right : List ℕ → ℕ → Bool → Type 0
Right W n true = received W n ≡ computed W n
Right W n false = Unit {0}

module _ (mode : Mode) where
  abbrev Claims : List ℕ → Kind → Type 0
  Claims W (Ubx class id n) = Unit {0}
  Claims W (Rtcm n parity) = Headed mode W n parity
  Claims W (Sentence i) = HasScan mode → ⊥

  abbrev LookClaims : List ℕ → Look → Type 0
  LookClaims W (need k) = Unit {0}
  LookClaims W (pass y) = Unit {0}
  LookClaims W (claim kind) = Claims W kind

  abbrev Tells : List ℕ → Verdict → Type 0
  Tells W (Wait k) = Unit {0}
  Tells W (Tell (WrongSum class id n expect got)) = Unit {0}
  Tells W (Tell (WrongParity expect got)) =
      (n : ℕ) × Headed mode W n true × (n + 6 ≤ length W) × (expect ≡ received W n) × (got ≡ computed W n) × (expect ≡ got → ⊥)
  Tells W (Tell (NoRoom drain size)) = Unit {0}
  Tells W (Hand (Ubx class id n)) = Unit {0}
  Tells W (Hand (Rtcm n parity)) = Headed mode W n parity × Right W n parity
  Tells W (Hand (Sentence i)) = HasScan mode → ⊥

  abbrev SightTells : List ℕ → Sight → Type 0
  SightTells W (Pass y) = Unit {0}
  SightTells W (Say v) = Tells W v

  ubx_claims : (max : ℕ) (W : List ℕ) → LookClaims W (look_ubx max W)
  unfolding look_ubx
  ubx_claims max W =
      let P : Look → Type 0 = LookClaims W in
      by_pick P (λ _. tt) (λ _. by_pick P (λ _. tt) (λ _. by_pick P (λ _. tt) (λ _. by_pick P (λ _. tt) (λ _. tt))))

  rtcm_claims : (W : List ℕ) → get_or W 0 0 ≡ 0xD3 → is_sync mode (get_or W 0 0) ≡ true → LookClaims W (look_rtcm (has_parity mode) W)
  unfolding look_rtcm
  rtcm_claims W front sync = by_pick (LookClaims W) (λ _. tt) (λ _. record { front = front; counts = refl; setting = refl; reads = rw front at sync })

  nmea_claims : (W : List ℕ) → (HasScan mode → ⊥) → (f : Option ℕ) → LookClaims W (end_at mode W f)
  nmea_claims W h (Some i) = h
  nmea_claims W h None = by_pick (LookClaims W) (λ _. tt) (λ _. by_pick (LookClaims W) (λ _. tt) (λ _. tt))

  look_claims : (max : ℕ) (W : List ℕ) → LookClaims W (look mode max W)
  unfolding look look_nmea
  look_claims max [] = tt
  look_claims max (b ∷ bs) =
      let W : List ℕ = b ∷ bs in
      let P : Look → Type 0 = LookClaims W in
      by_pick P
      (λ t. by_pick P (λ _. ubx_claims max W)
      (λ t5. by_pick P (λ t3. rtcm_claims W (eqb-true b 0xD3 t3) t)
      (λ t3. by_pick P (λ _. tt) (λ _. nmea_claims W (λ has. no_other mode b has t t5 t3) (end_mark 0 W)))))
      (λ _. tt)

  judge_tells : (kind : Kind) (W : List ℕ) → Claims W kind → whole kind ≤ length W → Tells W (judge kind W)
  unfolding judge
  judge_tells (Ubx class id n) W h w = by_pick (Tells W) (λ _. tt) (λ _. tt)
  judge_tells (Rtcm n true) W h w =
      by_pick (Tells W) (λ t. (h, eqb-true (received W n) (computed W n) t)) (λ t. (n, h, omega arith, refl, refl, eqb-false (received W n) (computed W n) t))
  judge_tells (Rtcm n false) W h w = (h, tt)
  judge_tells (Sentence i) W h w = h

  lacks_tells : (W : List ℕ) (drain size : ℕ) (over : Bool) → Tells W (lacks over drain size)
  lacks_tells W drain size true = tt
  lacks_tells W drain size false = tt

  -- for any hand-out test that only a whole frame passes
  module _ (fits : Kind → Bool) (over : Bool) (W : List ℕ) (sound : (kind : Kind) → fits kind ≡ true → whole kind ≤ length W) where
    sight_tells : (l : Look) → LookClaims W l → SightTells W (settle fits over W l)
    sight_tells (need k) h = tt
    sight_tells (pass y) h = tt
    sight_tells (claim kind) h = by_pick (Tells W) (λ t. judge_tells kind W h (sound kind t)) (λ _. lacks_tells W (back kind) (size kind) over)

  pub scan_tells : (max : ℕ) (W : List ℕ) → SightTells W (scan_move mode max W)
  unfolding scan_move
  scan_tells max W = sight_tells (is_whole W) false W (λ kind t. leb-true (whole kind) (length W) t) (look mode max W) (look_claims max W)

  pub step_tells : (max cap u : ℕ) (W : List ℕ) → SightTells W (step_move mode max cap u W)
  unfolding step_move
  step_tells max cap u W =
      sight_tells (λ kind. can_hand cap u (length W) (skip kind) (size kind)) (ltb cap (length W)) W
      (λ kind t. hand_whole cap u (length W) (skip kind) (size kind) t) (look mode max W) (look_claims max W)

-- an answer that is an RTCM frame, or a sentence, was handed out as such, and one that is a wrong parity told as such
pub rtcm_of : (W : List ℕ) (m : Sight) (e : Event) → SaidBy W e m → (b : List ℕ) → e.said ≡ rtcm_frame b
    → (n : ℕ) × (parity : Bool) × (m ≡ Say (Hand (Rtcm n parity))) × (b ≡ body (Rtcm n parity) W)
rtcm_of W _ e (by_tale (WrongSum class id n expect got) h) b s = let z : ◌≡◌ {A = ℕ} 0 1 = cc in absurd (omega arith)
rtcm_of W _ e (by_tale (WrongParity expect got) h) b s = let z : ◌≡◌ {A = ℕ} 0 1 = cc in absurd (omega arith)
rtcm_of W _ e (by_tale (NoRoom drain size) h) b s = let z : ◌≡◌ {A = ℕ} 0 1 = cc in absurd (omega arith)
rtcm_of W _ e (by_frame (Ubx class id n) h) b s = let z : ◌≡◌ {A = ℕ} 0 1 = cc in absurd (omega arith)
rtcm_of W _ e (by_frame (Rtcm n parity) h) b s = let eb : b ≡ body (Rtcm n parity) W = cc in (n, parity, refl, eb)
rtcm_of W _ e (by_frame (Sentence i) h) b s = let z : ◌≡◌ {A = ℕ} 0 1 = cc in absurd (omega arith)

pub sentence_of : (W : List ℕ) (m : Sight) (e : Event) → SaidBy W e m → (b : List ℕ) → e.said ≡ sentence b → (i : ℕ) × (m ≡ Say (Hand (Sentence i)))
sentence_of W _ e (by_tale (WrongSum class id n expect got) h) b s = let z : ◌≡◌ {A = ℕ} 0 1 = cc in absurd (omega arith)
sentence_of W _ e (by_tale (WrongParity expect got) h) b s = let z : ◌≡◌ {A = ℕ} 0 1 = cc in absurd (omega arith)
sentence_of W _ e (by_tale (NoRoom drain size) h) b s = let z : ◌≡◌ {A = ℕ} 0 1 = cc in absurd (omega arith)
sentence_of W _ e (by_frame (Ubx class id n) h) b s = let z : ◌≡◌ {A = ℕ} 0 1 = cc in absurd (omega arith)
sentence_of W _ e (by_frame (Rtcm n parity) h) b s = let z : ◌≡◌ {A = ℕ} 0 1 = cc in absurd (omega arith)
sentence_of W _ e (by_frame (Sentence i) h) b s = (i, refl)

pub wrong_parity_of : (W : List ℕ) (m : Sight) (e : Event) → SaidBy W e m → (expect got : ℕ) → e.said ≡ wrong_parity expect got
    → m ≡ Say (Tell (WrongParity expect got))
wrong_parity_of W _ e (by_tale (WrongSum class id n x y) h) expect got s = let z : ◌≡◌ {A = ℕ} 0 1 = cc in absurd (omega arith)
wrong_parity_of W _ e (by_tale (WrongParity x y) h) expect got s = let ex : x ≡ expect = cc in let ey : y ≡ got = cc in rw (ex, ey)
wrong_parity_of W _ e (by_tale (NoRoom drain size) h) expect got s = let z : ◌≡◌ {A = ℕ} 0 1 = cc in absurd (omega arith)
wrong_parity_of W _ e (by_frame (Ubx class id n) h) expect got s = let z : ◌≡◌ {A = ℕ} 0 1 = cc in absurd (omega arith)
wrong_parity_of W _ e (by_frame (Rtcm n parity) h) expect got s = let z : ◌≡◌ {A = ℕ} 0 1 = cc in absurd (omega arith)
wrong_parity_of W _ e (by_frame (Sentence i) h) expect got s = let z : ◌≡◌ {A = ℕ} 0 1 = cc in absurd (omega arith)
