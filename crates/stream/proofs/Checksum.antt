-- The interface description's sum is the code's.
use mathlib.Core.Path.{◌≡◌, ap, ◌∙◌}
use mathlib.Core.List.{List}
use Prim.Native.Nat.{ℕ, zero, suc, ◌+◌}
use native.Mathlib.Numerals.{add-one}
use native.Mathlib.Omega.{arith}
use lib.ListN.{length, get_or, drop}
use Rattle.sum.specs.declared.Sums.{Sums}
use Rattle.sum.specs.Sum.{add_byte, sum_on, sum_of}
use Rattle.sum.proofs.Laws.{sum_next, sum_end}
use Rattle.stream.specs.Interface.{Checksum, added, loop, checksum}

abbrev sums : Sums → Checksum
sums s = record { ck_a = s.a; ck_b = s.b }

one_byte : (s : Sums) (x : ℕ) → added (sums s) x ≡ sums (add_byte s x)
one_byte s x =
    let a : (added (sums s) x).ck_a ≡ (add_byte s x).a = omega arith in
    let b : (added (sums s) x).ck_b ≡ (add_byte s x).b = omega arith in
    rw (a, b)

loop_is : (buffer : List ℕ) (turns i : ℕ) (s : Sums) → i + turns ≡ length buffer → loop buffer turns i (sums s) ≡ sums (sum_on s (drop i buffer))
unfolding loop
loop_is buffer zero i s h = rw (sum_end s buffer i (omega arith))
loop_is buffer (suc n) i s h =
    let x = get_or buffer i 0 in
    ap (loop buffer n (i + 1)) (one_byte s x)
    ∙ loop_is buffer n (i + 1) (add_byte s x) (omega arith)
    ∙ rw (add-one, sum_next s buffer i (omega arith))

-- the description's sum is the code's, which `sum::update` promises
pub checksum_is : (buffer : List ℕ) → ((checksum buffer).ck_a ≡ (sum_of buffer).a) × ((checksum buffer).ck_b ≡ (sum_of buffer).b)
checksum_is buffer =
    let e = loop_is buffer (length buffer) 0 (record { a = 0; b = 0 }) (omega arith) in
    (ap (λ (c : Checksum). c.ck_a) e, ap (λ (c : Checksum). c.ck_b) e)
