-- What a teller says of a chunk, spelled for the listing: the lines are those of the answers.
use Rattle.std.proofs.Common.{◌≡◌, ℕ, false, List, refl}
use Rattle.text.specs.declared.lines.Lines.{Lines as Buffer}
use Rattle.teller.specs.declared.Run.{Run}
use Rattle.teller.specs.Words.{Point}
use Rattle.teller.specs.Telling.{Lines as Told, no_line as none_told, next_line as next_told, Filled as Whole, is_whole as whole_told, Through}
use Rattle.lister.specs.declared.Listing.{Listing}
use Rattle.lister.specs.Listing.{Lines, no_line, next_line, Filled, is_whole, Lists, listing}

-- steps leave what the listing has beside
kept : {before : ℕ} {chunk : List ℕ} {p q : Point Listing} {text : List ℕ} → Told listing before chunk p text q → q.by ≡ p.by
kept none_told = refl
kept (next_told a e) = kept a

lines : {before : ℕ} {chunk : List ℕ} {p q : Point Listing} {text : List ℕ} → Told listing before chunk p text q → Lines p.by.named before chunk p.state p.carry text q.state q.carry
lines none_told = no_line
lines (next_told a e) = rw (kept a) (next_line (lines a) e)

whole : {before : ℕ} {chunk : List ℕ} {p q : Point Listing} {text : List ℕ} → Whole listing before chunk p false text q
    → Filled p.by.named before chunk p.state p.carry false text q.state q.carry × (q.by ≡ p.by)
whole (whole_told a e) = (is_whole (lines a) e, kept a)

pub lists : {l r : Run Listing} {carry chunk carryThen : List ℕ} {b c : Buffer} → Through listing l carry chunk b r carryThen c → Lists l carry chunk r carryThen
lists t =
    let w = whole t.says in
    record {
      text = t.text;
      last = t.last.state;
      mid = t.last.carry;
      says = w.0;
      state = t.state;
      used = t.used;
      kept = t.kept;
      lost = t.lost;
      named = rw (t.by, w.1);
      carries = t.carries;
    }
