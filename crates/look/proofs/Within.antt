-- A look stays within the window, and so does what becomes of it: in every mode and for every carry.
use mathlib.Core.Path.{◌≡◌, refl, sym}
use mathlib.Core.Bool.{Bool, true, false, not, ◌&&◌, ◌||◌, true≢false}
use mathlib.Core.List.{List, [], ◌∷◌}
use Prim.Native.Nat.{ℕ, ◌+◌, ◌-◌, ◌≤◌, ◌<◌}
use native.Mathlib.Omega.{arith}
use lib.ListN.{length}
use lib.Dec.{ltb, leb}
use borrow.Author.Tests.{ltb-false, leb-true, lt-ltb}
use Rattle.std.specs.Prelude.{Option, Some, None}
use Rattle.window.specs.declared.Mode.{Mode}
use Rattle.window.proofs.Pick.{by_pick}
use Rattle.window.specs.Sync.{has_parity}
use Rattle.window.specs.EndMark.{end_mark}
use Rattle.claim.specs.declared.Kind.{Kind, TheVariants.{Ubx, Rtcm, Sentence}}
use Rattle.claim.specs.Sizes.{skip, around, size, back}
use Rattle.claim.specs.Verdicts.{can_hand, lacks}
use Rattle.look.specs.Rules.{far, Look, need, pass, claim, look_ubx, look_rtcm, end_at, look_nmea, look}
use Rattle.look.specs.Moves.{judge, settled, step_move}
use Rattle.look.specs.Within.{whole, Says, Moves}

-- ---- a look

abbrev pub In : ℕ → Look → Type 0
In w (need k) = k ≤ w
In w (pass y) = (0 < far y) × (far y ≤ w)
In w (claim kind) = (0 < back kind) × (back kind ≤ w) × (2 ≤ whole kind)

ubx_in : (max : ℕ) (W : List ℕ) → In (length W) (look_ubx max W)
unfolding look_ubx
ubx_in max W =
    by_pick (In (length W)) (λ _. omega arith)
    (λ t2. let h2 : 2 ≤ length W = ltb-false (length W) 2 t2 in
    by_pick (In (length W)) (λ _. omega arith)
    (λ _. by_pick (In (length W)) (λ _. omega arith) (λ _. by_pick (In (length W)) (λ _. omega arith) (λ _. omega arith))))

around_head : (parity : Bool) → 3 ≤ around parity
around_head true = omega arith
around_head false = omega arith

rtcm_in : (parity : Bool) (W : List ℕ) → In (length W) (look_rtcm parity W)
unfolding look_rtcm
rtcm_in parity W = by_pick (In (length W)) (λ _. omega arith) (λ t. let h : 3 ≤ length W = ltb-false (length W) 3 t in omega (arith, around_head parity))

end_in : (mode : Mode) (W : List ℕ) (f : Option ℕ) → 8 ≤ length W → In (length W) (end_at mode W f)
end_in mode W (Some i) h = omega arith
end_in mode W None h = by_pick (In (length W)) (λ _. omega arith) (λ _. by_pick (In (length W)) (λ _. omega arith) (λ _. omega arith))

pub look_in : (mode : Mode) (max : ℕ) (W : List ℕ) → In (length W) (look mode max W)
unfolding look look_nmea
look_in mode max [] = omega arith
look_in mode max (b ∷ bs) =
    let W : List ℕ = b ∷ bs in
    by_pick (In (length W))
    (λ _. by_pick (In (length W)) (λ _. ubx_in max W)
    (λ _. by_pick (In (length W)) (λ _. rtcm_in (has_parity mode) W)
    (λ _. by_pick (In (length W)) (λ _. omega arith) (λ t. end_in mode W (end_mark 0 W) (ltb-false (length W) 8 t)))))
    (λ _. omega arith)

-- ---- what becomes of it

tested : (a x y z : Bool) → (a && (not (x && y) || z)) ≡ true → (a ≡ true) × (x ≡ true → y ≡ true → z ≡ true)
tested true true true z e = (refl, λ _ _. e)
tested true true false z e = (refl, λ _ h. absurd (true≢false (sym h)))
tested true false y z e = (refl, λ h _. absurd (true≢false (sym h)))
tested false x y z e = absurd (true≢false (sym e))

hand_fits : (cap u w d t : ℕ) → can_hand cap u w d t ≡ true → (d + t ≤ w) × (0 < u - d → u - d < t → t ≤ cap)
hand_fits cap u w d t e =
    let h = tested (leb (d + t) w) (ltb 0 (u - d)) (ltb (u - d) t) (leb t cap) e in
    (leb-true (d + t) w h.0, λ p l. leb-true t cap (h.1 (lt-ltb 0 (u - d) p) (lt-ltb (u - d) t l)))

judge_in : (cap u : ℕ) (W : List ℕ) (kind : Kind) → 2 ≤ whole kind → (whole kind ≤ length W) × (0 < u - skip kind → u - skip kind < size kind → size kind ≤ cap)
    → Says cap u (length W) (judge kind W)
unfolding judge
judge_in cap u W (Ubx c i n) h f = by_pick (Says cap u (length W)) (λ _. (omega arith, f.0, f.1)) (λ _. (omega arith, omega (arith, f.0)))
judge_in cap u W (Rtcm n true) h f = by_pick (Says cap u (length W)) (λ _. (omega arith, f.0, f.1)) (λ _. (omega arith, omega (arith, f.0)))
judge_in cap u W (Rtcm n false) h f = (omega arith, f.0, f.1)
judge_in cap u W (Sentence i) h f = (omega arith, f.0, f.1)

lacks_in : (cap u w drain size : ℕ) (over : Bool) → (0 < drain) × (drain ≤ w) → Says cap u w (lacks over drain size)
lacks_in cap u w drain size true h = h
lacks_in cap u w drain size false h = omega arith

pub settled_in : (cap u : ℕ) (W : List ℕ) (l : Look) → In (length W) l → Moves cap u (length W) (settled cap u W l)
settled_in cap u W (need k) h = h
settled_in cap u W (pass y) h = h
settled_in cap u W (claim kind) h =
    by_pick (Says cap u (length W)) (λ t. judge_in cap u W kind h.2 (hand_fits cap u (length W) (skip kind) (size kind) t))
    (λ _. lacks_in cap u (length W) (back kind) (size kind) (ltb cap (length W)) (h.0, h.1))

pub move_in : (mode : Mode) (max cap u : ℕ) (W : List ℕ) → Moves cap u (length W) (step_move mode max cap u W)
unfolding step_move
move_in mode max cap u W = settled_in cap u W (look mode max W) (look_in mode max W)
