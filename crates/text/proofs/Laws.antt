-- Texts put behind what stands in a lent buffer, one behind the other, are one text.
use Rattle.std.proofs.Common.{◌≡◌, ℕ, ◌+◌, ◌≤◌, List, [], ◌++◌, length, take, drop, sym, refl, ap, ◌∙◌, append_assoc, append-nil, add-zero, arith, length-append, take-append-drop, length-take-le, drop-drop, take_at}
use lib.Seq.{drop-append-add}
use Rattle.text.specs.declared.lines.Lines.{Lines}
use Rattle.text.specs.Text.{put}
use Rattle.text.specs.Adds.{SameBuffer, Adds}

put_put : (out s t : List ℕ) (at : ℕ) → at ≤ length out → put (put out at s) (at + length s) t ≡ put out at (s ++ t)
put_put out s t at h =
    let p = take at out ++ s in
    let q = drop (at + length s) out in
    let e : length p ≡ at + length s = simp (length-append, length-take-le at out h) in
    let n : at + length s + length t ≡ at + length (s ++ t) = omega (arith, length-append s t) in
    let f : drop (at + length s + length t) (p ++ q) ≡ drop (at + length (s ++ t)) out =
    ap (λ (m : ℕ). drop (m + length t) (p ++ q)) (sym e)
    ∙ drop-append-add p q (length t)
    ∙ drop-drop (length t) (at + length s) out
    ∙ ap (λ (m : ℕ). drop m out) n in
    rw (take_at p q (at + length s) e, f, append_assoc (take at out) s t)

pub unchanged : (l : Lines) → SameBuffer l l
unchanged l = record { size = refl; name = refl }

pub again : {l m n : Lines} → SameBuffer l m → SameBuffer m n → SameBuffer l n
again a b = record { size = b.size ∙ a.size; name = b.name ∙ a.name }

pub behind : {s t : List ℕ} {l m n : Lines} → Adds s l m → Adds t m n → Adds (s ++ t) l n
behind {s} {t} {l} a b =
    let p = a.puts in
    let q = b.puts in
    record {
      puts = record {
        bytes = q.bytes ∙ rw (p.bytes, p.place) (put_put l.out.now s t l.len l.fits);
        place = omega (arith, p.place, q.place, length-append s t);
      };
      buffer = again a.buffer b.buffer;
    }

pub nothing : (l : Lines) → Adds [] l l
nothing l = record {
  puts = record { bytes = sym (rw (append-nil, add-zero) (take-append-drop l.len l.out.now)); place = omega arith };
  buffer = unchanged l;
}
