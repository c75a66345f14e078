-- Two lists compared from their beginning on: a beginning that they share, and what is left of each behind it.
use Rattle.std.proofs.Common.{◌≡◌, List, [], ◌∷◌, ◌++◌, sym, ap, ◌∙◌, append_assoc}

pub record Alike {A : Type 0} (xs ys left right : List A) : Type 0 where
  pub shared : List A
  pub one : xs ≡ shared ++ left
  pub other : ys ≡ shared ++ right

-- one item more that is the same in both
pub alike_more : {A : Type 0} {xs ys left right : List A} (x y : A) → Alike xs ys (x ∷ left) (y ∷ right) → x ≡ y → Alike xs ys left right
alike_more {left = left} {right = right} x y a e =
    record {
      shared = a.shared ++ (x ∷ []);
      one = a.one ∙ sym (append_assoc a.shared (x ∷ []) left);
      other = a.other ∙ ap (λ z. a.shared ++ (z ∷ right)) (sym e) ∙ sym (append_assoc a.shared (x ∷ []) right);
    }
