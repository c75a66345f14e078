-- No good frame is lost, of whatever kind, by any moves that hand it out where it stands and jump no byte but a 62.
use mathlib.Core.Path.{◌≡◌, refl, ◌∙◌}
use mathlib.Core.Bool.{Bool, true, false, true≢false}
use mathlib.Core.List.Memᴰ.{append_right as among-right}
use mathlib.Core.List.Memᴰ.{head as among-head}
use mathlib.Core.List.{List, [], ◌∷◌, ◌++◌}
use Prim.Native.Nat.{ℕ, zero, suc, ◌+◌, ◌-◌, ◌≤◌, ◌<◌}
use native.Mathlib.Nat.{add-zero}
use native.Mathlib.Omega.{arith}
use lib.ListN.{length, get_or, drop}
use lib.Seq.{drop-drop, get_or-drop}
use lib.Dec.{leb}
use borrow.Author.Tests.{leb-true, leb-false}
use Rattle.claim.specs.declared.Verdict.TheVariants.{Wait, Tell, Hand}
use Rattle.look.specs.declared.Sight.{Sight, TheVariants.{Pass, Say}}
use Rattle.stream.specs.Scan.{Event, frame_said, body}
use Rattle.stream.specs.Frames.{Kept, handed, inside, unfinished}
use Rattle.stream.proofs.Walks.{ends, gone, says, Steady, Walk, here, turn}
use Rattle.stream.proofs.Cases.{span_whole}

-- what hands out no bytes goes on by one, or by two over a 62
abbrev pub Hops : List ℕ → Sight → Type 0
Hops W (Pass y) = 1 < gone (Pass y) → (gone (Pass y) ≡ 2) × (get_or W 1 0 ≡ 0x62)
Hops W (Say (Wait k)) = Unit {0}
Hops W (Say (Tell t)) = 1 < gone (Say (Tell t)) → (gone (Say (Tell t)) ≡ 2) × (get_or W 1 0 ≡ 0x62)
Hops W (Say (Hand kind)) = Unit {0}

-- what is good where it stands at a window's front: of any kind, it does not begin with 62, and is answered at its place by `out`
module _ (move : List ℕ → Sight) (steady : Steady move) (Good : List ℕ → Type 0) (out : ℕ → Event)
    (hands : (p : ℕ) (W : List ℕ) → Good W → says p W (move W) ≡ out p ∷ [])
    (front : (W : List ℕ) → Good W → get_or W 0 0 ≡ 0x62 → ⊥)
    (hops : (W : List ℕ) → Hops W (move W)) where
  abbrev KeptIn : List Event → ℕ → ℕ → Type 0
  KeptIn es q p = Kept es q p (out p)

  later : (es fs : List Event) (q p : ℕ) → KeptIn fs q p → KeptIn (es ++ fs) q p
  later es fs q p (handed m) = handed (among-right es m)
  later es fs q p (inside f m b i) = inside f (among-right es m) b i
  later es fs q p (unfinished t) = unfinished t

  -- at the front of the window: it is handed out
  first : (p : ℕ) (W : List ℕ) (es : List Event) (q : ℕ) → Good W → KeptIn (says p W (move W) ++ es) q p
  first p W es q g = rw (hands p W g) (handed (among-head refl))

  -- two bytes on over a 62, nothing good is jumped
  no_jump : (j k : ℕ) (W : List ℕ) → 0 < j → j < k → (1 < k → (k ≡ 2) × (get_or W 1 0 ≡ 0x62)) → Good (drop j W) → ⊥
  no_jump j k W some l hop g =
      let h = hop (omega arith) in
      let one : j ≡ 1 = omega (arith, h.0) in
      front (drop 1 W) (rw one at g) (get_or-drop 1 W 0 0 ∙ h.1)

  -- before its place: it lies inside a frame that is handed out there, or nothing jumps it
  before : (p j : ℕ) (W : List ℕ) (es : List Event) (q : ℕ) (m : Sight) → ends m ≡ false → gone m ≤ length W → Hops W m → 0 < j → j < gone m → Good (drop j W)
      → KeptIn (says p W m ++ es) q (p + j)
  before p j W es q (Pass y) n w hop some l g = absurd (no_jump j (gone (Pass y)) W some l hop g)
  before p j W es q (Say (Wait k)) n w hop some l g = absurd (true≢false n)
  before p j W es q (Say (Tell t)) n w hop some l g = absurd (no_jump j (gone (Say (Tell t))) W some l hop g)
  before p j W es q (Say (Hand kind)) n w hop some l g =
      inside (record { at = p; said = frame_said kind (body kind W) }) (among-head refl) (omega arith) (rw (span_whole kind W w) (omega arith))

  pub kept : {p q : ℕ} {W X : List ℕ} {es : List Event} → Walk move p W es q X → (j : ℕ) → Good (drop j W) → KeptIn es q (p + j)
  kept (here {p} {W}) j g = unfinished (omega arith)
  kept (turn {p} {q} {W} {X} {es} e w) zero g = rw add-zero (first p W es q g)
  kept (turn {p} {q} {W} {X} {es} e w) (suc i) g = go (leb (gone (move W)) (suc i)) refl (λ j h. kept w j h)
    where
      go : (b : Bool) → leb (gone (move W)) (suc i) ≡ b
          → ((j : ℕ) → Good (drop j (drop (gone (move W)) W)) → KeptIn es q (p + gone (move W) + j))
          → KeptIn (says p W (move W) ++ es) q (p + suc i)
      go true t ih =
          let l : gone (move W) ≤ suc i = leb-true _ _ t in
          let at : p + gone (move W) + (suc i - gone (move W)) ≡ p + suc i = omega arith in
          let on : gone (move W) + (suc i - gone (move W)) ≡ suc i = omega arith in
          later (says p W (move W)) es q (p + suc i) (rw at at (ih (suc i - gone (move W)) (rw (drop-drop, on) g)))
      go false t ih = before p (suc i) W es q (move W) e (steady.goes W e).1 (hops W) (omega arith) (leb-false _ _ t) g
