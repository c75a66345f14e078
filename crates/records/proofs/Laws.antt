-- A piece of a list, written out.
use Rattle.std.proofs.Common.{◌≡◌, ℕ, ◌+◌, ◌≤◌, List, length, get_or, take, drop, get_or-drop, get_or-take, length-take-le, length-drop, arith, map}
use Rattle.std.specs.List.{range_with_len}
use Rattle.std.proofs.lemmas.List.FromFn.{fill_by_all}

-- k items of w from n on
pub written_out : (w p : List ℕ) (n k : ℕ) → p ≡ take k (drop n w) → n + k ≤ length w → p ≡ map (λ i. get_or w (n + i) 0) (range_with_len 0 k)
written_out w p n k e h =
    let long : k ≤ length (drop n w) = omega (arith, length-drop n w) in
    fill_by_all (λ i. get_or w (n + i) 0) p k 0 (rw e (length-take-le k (drop n w) long)) (λ i q. rw (e, get_or-take k (drop n w) i 0, get_or-drop n w i 0))
