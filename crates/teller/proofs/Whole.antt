-- The turns of `answers`: the lines of one filled buffer after the other are those of the chunk.
use Rattle.std.proofs.Common.{◌≡◌, ℕ, ◌+◌, ◌-◌, ◌<◌, ◌≤◌, min, Bool, true, false, List, [], ◌∷◌, ◌++◌, length, refl, ap, ◌∙◌, append_assoc, append-nil, arith}
use Rattle.state.specs.declared.State.{State}
use Rattle.text.specs.declared.lines.Lines.{Lines as Buffer}
use Rattle.text.specs.Adds.{SameBuffer}
use Rattle.text.proofs.Laws.{unchanged, again}
use Rattle.teller.specs.declared.Run.{Run}
use Rattle.teller.specs.Words.{Point, Words, Uses, GetsOn}
use Rattle.teller.specs.Telling.{point_of, flushed, Emptied, Lines, no_line, next_line, Filled, is_full, is_whole, Fills, Answers}

-- ---- runs of lines

join : {M : Type 0} {w : Words M} {before : ℕ} {chunk : List ℕ} {p q r : Point M} {x y : List ℕ} → Lines w before chunk p x q → Lines w before chunk q y r → Lines w before chunk p (x ++ y) r
join {x = x} a no_line = rw append-nil a
join {w = w} {before} {chunk} {x = x} a (next_line {text} {q} b e) = rw (← append_assoc x text (w.line before chunk q)) (next_line (join a b) e)

full_lines : {M : Type 0} {w : Words M} {before : ℕ} {chunk : List ℕ} {p q : Point M} {x : List ℕ} → Filled w before chunk p true x q → Lines w before chunk p x q
full_lines (is_full a) = a

whole_joined : {M : Type 0} {w : Words M} {before : ℕ} {chunk : List ℕ} {p q r : Point M} {x y : List ℕ} → Lines w before chunk p x q → Filled w before chunk q false y r → Filled w before chunk p false (x ++ y) r
whole_joined a (is_whole b e) = is_whole (join a b) e

-- a run of lines uses no byte less, and one that has a line uses some
record Gets (s t : State) (text : List ℕ) : Type 0 where
  least : s.used ≤ t.used
  some : 0 < length text → Uses s t

gets : {M : Type 0} {w : Words M} (on : GetsOn w) {before : ℕ} {chunk : List ℕ} {p q : Point M} {x : List ℕ} → Lines w before chunk p x q → Gets p.state q.state x
gets on no_line = record { least = omega arith; some = λ h. absurd (omega arith) }
gets on {chunk = chunk} (next_line {q = q} a e) =
    let g = gets on a in
    let u = on.uses chunk q e in
    record {
      least = omega (arith, g.least, u.more);
      some = λ _. record { more = omega (arith, g.least, u.more); within = u.within };
    }

-- ---- the turns

abbrev pub left : {M : Type 0} → Run M → Buffer → ℕ
left l b = (32768 - l.state.used) + (32768 - l.state.used) + min 1 b.len

-- a turn leaves less: a line uses up a byte, and where there was none a flush empties what waited
less : (s t : State) (waiting : ℕ) (text : List ℕ) → Gets s t text → 0 < waiting + length text
    → (32768 - t.used) + (32768 - t.used) + 0 < (32768 - s.used) + (32768 - s.used) + min 1 waiting
less s t waiting [] g h = omega (arith, g.least)
less s t waiting (x ∷ xs) g h = let u = g.some (omega arith) in omega (arith, u.more, u.within)

-- after so many filled buffers
pub record Flowing {M : Type 0} (w : Words M) (l : Run M) (carry chunk : List ℕ) (b : Buffer) (next : Run M) (carryNow : List ℕ) (bNow : Buffer) : Type 0 where
  pub text : List ℕ
  pub lines : Lines w l.used chunk (point_of l carry) text (point_of next carryNow)
  pub used : next.used ≡ l.used
  pub kept : next.kept ≡ l.kept
  pub lost : next.lost ≡ l.lost
  pub buffer : SameBuffer b bNow

pub flowing_starts : {M : Type 0} {w : Words M} (l : Run M) (carry chunk : List ℕ) (b : Buffer) → Flowing w l carry chunk b l carry b
flowing_starts l carry chunk b = record { text = []; lines = no_line; used = refl; kept = refl; lost = refl; buffer = unchanged b }

module _ {M : Type 0} {w : Words M} {longest : ℕ} {l : Run M} {carry chunk : List ℕ} {b : Buffer} {next : Run M} {c : List ℕ} {o : Buffer} (g : Flowing w l carry chunk b next c o) {more : Bool} {f : Run M} {c' : List ℕ} {o' : Buffer} (fills : Fills w longest next c chunk o more f c' o') where
  used : f.used ≡ l.used
  used = ap (λ (x : Run M). x.used) fills.run ∙ g.used

  kept : f.kept ≡ l.kept
  kept = ap (λ (x : Run M). x.kept) fills.run ∙ g.kept

  lost : f.lost ≡ l.lost
  lost = ap (λ (x : Run M). x.lost) fills.run ∙ g.lost

  says : (m : Bool) → more ≡ m → Filled w l.used chunk (point_of next c) m fills.text (point_of f c')
  says m e = rw (g.used, e) at fills.says

  pub flowing_ends : more ≡ false → Answers w l carry chunk b f c' o'
  flowing_ends e = record {
    text = g.text ++ fills.text;
    says = whole_joined g.lines (says false e);
    used = used;
    kept = kept;
    lost = lost;
    buffer = again g.buffer fills.adds.buffer;
  }

  module _ (full : more ≡ true) {n : Run M} (e : n ≡ flushed f n.up) {o'' : Buffer} (z : Emptied o' o'') where
    pub flowing_on : Flowing w l carry chunk b n c' o''
    flowing_on = record {
      text = g.text ++ fills.text;
      lines = rw e (join g.lines (full_lines (says true full)));
      used = rw e used;
      kept = rw e kept;
      lost = rw e lost;
      buffer = again g.buffer (again fills.adds.buffer z.buffer);
    }

    pub flowing_less : GetsOn w → longest ≤ length o.out.now → left n o'' < left next o
    flowing_less on room =
        rw (e, z.len)
        (less next.state f.state o.len fills.text (gets on (full_lines (says true full))) (omega (arith, fills.full full, fills.adds.puts.place, fills.adds.buffer.size)))
