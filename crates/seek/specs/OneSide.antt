-- What one side of the window tells of its front: what the inner functions of `seek` are told and answer, and what a head there claims.
use Rattle.std.specs.Prelude.{◌≡◌, false, Option, Some, None, Result, Ok, Err, ◌⊎◌, ℕ, ◌+◌, ◌-◌, ◌≤◌, ◌<◌, List, [], ◌∷◌, ◌++◌, length, drop}
use lib.Dec.{ltb}
use Rattle.window.specs.Pick.{pick}
use Rattle.look.specs.declared.Sight.{Sight, TheVariants.{Pass}}
use Rattle.claim.specs.declared.Kind.{Kind, TheVariants.{Ubx, Rtcm}}
use Rattle.claim.specs.declared.UbxHead.{UbxHead}
use Rattle.claim.specs.Sizes.{skip, size}
use Rattle.look.specs.Rules.{claim}
use Rattle.look.specs.Moves.{settled}
use Rattle.look.specs.declared.Why.{Why}
use Rattle.seek.specs.declared.Head.{Head, TheVariants.{Past, Ubx as HeadUbx, Rtcm as HeadRtcm}}

-- the first of two lists, where it has bytes
abbrev pub first_of : List ℕ → List ℕ → List ℕ
first_of [] b = b
first_of (x ∷ a) b = x ∷ a

-- the list in which the byte at k of two lists read as one lies, from that byte on
abbrev pub side_from : List ℕ → List ℕ → ℕ → List ℕ
side_from a b k = pick (ltb k (length a)) (drop k a) (drop (k - length a) b)

-- a window W of w bytes begins with s, and all of s lies on one side: u bytes of W lie in the carry, and these are s, or none
pub record Begins (s W : List ℕ) (u w : ℕ) : Type 0 where
  pub rest : List ℕ
  pub joined : W ≡ s ++ rest
  pub width : length W ≡ w
  pub side : (u ≡ length s) ⊎ (u ≡ 0)

-- what stands behind s in W: nothing, or b, and then s is what lies in the carry
abbrev pub Beside : List ℕ → List ℕ → List ℕ → ℕ → Type 0
Beside s b W u = (W ≡ s) ⊎ ((W ≡ s ++ b) × (u ≡ length s))

-- what is told of a move, where one side tells
abbrev pub Tells : Option Sight → Sight → Type 0
Tells None m = Unit {0}
Tells (Some sight) m = m ≡ sight

-- a move, of any window that begins with s, is what becomes of a frame that is claimed
abbrev pub Claimed : (ℕ → ℕ → List ℕ → Sight) → List ℕ → Kind → Type 0
Claimed move s kind = (cap u w : ℕ) (W : List ℕ) → Begins s W u w → move cap u W ≡ settled cap u W (claim kind)

-- what a UBX head tells: the frame that it claims, or why bytes are passed
abbrev pub told_head : Result UbxHead Why → Head
told_head (Ok head) = HeadUbx head
told_head (Err y) = Past y

-- what a head claims that s has, where it tells
abbrev pub Heads : (ℕ → ℕ → List ℕ → Sight) → List ℕ → Option Head → Type 0
Heads move s None = Unit {0}
Heads move s (Some (Past y)) = (cap u w : ℕ) (W : List ℕ) → Begins s W u w → move cap u W ≡ Pass y
Heads move s (Some (HeadUbx head)) = (6 ≤ length s) × (head.n < 65536) × Claimed move s (Ubx head.class head.id head.n)
Heads move s (Some (HeadRtcm n)) = (6 ≤ length s) × (n < 1024) × Claimed move s (Rtcm n false)

-- a frame lies on one side of a window, u bytes of which lie in the carry
abbrev pub OnOneSide : ℕ → Kind → Type 0
OnOneSide u kind = (u ≡ 0) ⊎ (skip kind + size kind ≤ u)
