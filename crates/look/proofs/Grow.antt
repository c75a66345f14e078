-- What a whole frame's bytes decide, more bytes behind it do not change.
use mathlib.Core.Path.{◌≡◌, refl}
use mathlib.Core.Bool.{true, false}
use mathlib.Core.List.{List, ◌++◌}
use Prim.Native.Nat.{ℕ, ◌+◌, ◌≤◌, ◌<◌}
use native.Mathlib.Omega.{arith}
use lib.ListN.{length, drop, length-drop, get_or-append}
use lib.Seq.{take-append-le, drop-append-le}
use Rattle.claim.specs.declared.Kind.{Kind, TheVariants.{Ubx, Rtcm, Sentence}}
use Rattle.look.specs.Moves.{judge}
use Rattle.look.specs.Within.{whole}

pub judge_grow : (kind : Kind) (W Z : List ℕ) → whole kind ≤ length W → judge kind (W ++ Z) ≡ judge kind W
unfolding judge
judge_grow (Ubx class id n) W Z h =
    let a : n + 6 < length W = omega arith in
    let b : n + 7 < length W = omega arith in
    let two : 2 ≤ length W = omega arith in
    let part : n + 4 ≤ length (drop 2 W) = rw length-drop (omega arith) in
    rw (get_or-append W Z 0 (n + 6) a, get_or-append W Z 0 (n + 7) b, drop-append-le 2 W Z two, take-append-le (n + 4) (drop 2 W) Z part)
judge_grow (Rtcm n true) W Z h =
    let high : n + 3 < length W = omega arith in
    let middle : n + 4 < length W = omega arith in
    let low : n + 5 < length W = omega arith in
    let part : n + 3 ≤ length W = omega arith in
    rw (get_or-append W Z 0 (n + 3) high, get_or-append W Z 0 (n + 4) middle, get_or-append W Z 0 (n + 5) low, take-append-le (n + 3) W Z part)
judge_grow (Rtcm n false) W Z h = refl
judge_grow (Sentence i) W Z h = refl
