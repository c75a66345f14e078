-- What a program tells of a chunk: the lines of its steps, in turn, and no others.
use Rattle.std.specs.Prelude.{◌≡◌, ℕ, ◌+◌, ◌%◌, ◌^◌, ◌<◌, ◌≤◌, Bool, true, false, List, [], ◌++◌, length}
use Rattle.opening.specs.declared.Closed.{Closed}
use Rattle.opening.specs.Operations.{opening, closing}
use Rattle.text.specs.declared.lines.Lines.{Lines as Buffer}
use Rattle.text.specs.Adds.{SameBuffer, Adds}
use Rattle.teller.specs.declared.Run.{Run}
use Rattle.teller.specs.Words.{Point, Words}

abbrev pub point_of : {M : Type 0} → Run M → List ℕ → Point M
point_of l carry = record { by = l.by; state = l.state; carry = carry }

-- with what a step changed
abbrev pub onward : {M : Type 0} → Run M → Point M → Run M
onward l p = record { state = p.state; used = l.used; kept = l.kept; lost = l.lost; up = l.up; by = p.by }

-- with whether the writes were taken
abbrev pub flushed : {M : Type 0} → Run M → Bool → Run M
flushed l up = record { state = l.state; used = l.used; kept = l.kept; lost = l.lost; up = up; by = l.by }

-- none wait, and all bytes stay
pub record Emptied (b c : Buffer) : Type 0 where
  pub len : c.len ≡ 0
  pub bytes : c.out.now ≡ b.out.now
  pub buffer : SameBuffer b c

-- after a close: used and lost are totals, kept is the last close's
abbrev pub counted : {M : Type 0} → Run M → Closed → Run M
counted l c = record { state = c.state; used = (l.used + c.used) % 2 ^ 64; kept = c.kept; lost = (l.lost + c.lost) % 2 ^ 64; up = l.up; by = l.by }

-- room was made: nothing but what waits, and whether it was taken, may have changed
pub record Makes {M : Type 0} (longest : ℕ) (l : Run M) (b : Buffer) (r : Run M) (c : Buffer) : Type 0 where
  pub stays : r ≡ flushed l r.up
  pub room : c.len + longest ≤ length c.out.now
  pub bytes : c.out.now ≡ b.out.now
  pub buffer : SameBuffer b c

-- one step: its line is put behind those that wait
pub record Tells {M : Type 0} (w : Words M) (l : Run M) (carry chunk : List ℕ) (b : Buffer) (more : Bool) (r : Run M) (carryThen : List ℕ) (c : Buffer) : Type 0 where
  pub run : r ≡ onward l (w.after chunk (point_of l carry))
  pub carries : carryThen ≡ (w.after chunk (point_of l carry)).carry
  pub adds : Adds (w.line l.used chunk (point_of l carry)) b c
  pub goes : more ≡ w.goes_on chunk (point_of l carry)

-- the lines of so many steps with a chunk, after each of which there may be more, and where they lead
pub data Lines {M : Type 0} (w : Words M) (before : ℕ) (chunk : List ℕ) (p : Point M) : List ℕ → Point M → Type 0 where
  no_line : Lines w before chunk p [] p
  next_line : {text : List ℕ} {q : Point M} → Lines w before chunk p text q → w.goes_on chunk q ≡ true
      → Lines w before chunk p (text ++ w.line before chunk q) (w.after chunk q)

-- and whether there may be more: the buffer is full; or the next step is the last, and has no line
pub data Filled {M : Type 0} (w : Words M) (before : ℕ) (chunk : List ℕ) (p : Point M) : Bool → List ℕ → Point M → Type 0 where
  is_full : {text : List ℕ} {q : Point M} → Lines w before chunk p text q → Filled w before chunk p true text q
  is_whole : {text : List ℕ} {q : Point M} → Lines w before chunk p text q → w.goes_on chunk q ≡ false
      → Filled w before chunk p false text (w.after chunk q)

-- the lines are put behind those that wait, until there is no more, or no room for another
pub record Fills {M : Type 0} (w : Words M) (longest : ℕ) (l : Run M) (carry chunk : List ℕ) (b : Buffer) (more : Bool) (r : Run M) (carryThen : List ℕ) (c : Buffer) : Type 0 where
  pub text : List ℕ
  pub says : Filled w l.used chunk (point_of l carry) more text (point_of r carryThen)
  pub adds : Adds text b c
  pub run : r ≡ onward l (point_of r carryThen)
  pub full : more ≡ true → length c.out.now < c.len + longest

-- an opened chunk: the lines of all its steps
pub record Answers {M : Type 0} (w : Words M) (l : Run M) (carry chunk : List ℕ) (b : Buffer) (r : Run M) (carryThen : List ℕ) (c : Buffer) : Type 0 where
  pub text : List ℕ
  pub says : Filled w l.used chunk (point_of l carry) false text (point_of r carryThen)
  pub used : r.used ≡ l.used
  pub kept : r.kept ≡ l.kept
  pub lost : r.lost ≡ l.lost
  pub buffer : SameBuffer b c

abbrev pub opened : {M : Type 0} → Run M → List ℕ → List ℕ → Point M
opened l carry chunk = record { by = l.by; state = (opening l.state carry chunk).state; carry = carry }

-- a chunk: opened, stepped to its end, closed, and the close's report counted
pub record Through {M : Type 0} (w : Words M) (l : Run M) (carry chunk : List ℕ) (b : Buffer) (r : Run M) (carryThen : List ℕ) (c : Buffer) : Type 0 where
  pub text : List ℕ
  pub last : Point M
  pub says : Filled w l.used chunk (opened l carry chunk) false text last
  pub state : r.state ≡ (closing last.state last.carry chunk).result.state
  pub by : r.by ≡ last.by
  pub used : r.used ≡ (l.used + (closing last.state last.carry chunk).result.used) % 2 ^ 64
  pub kept : r.kept ≡ (closing last.state last.carry chunk).result.kept
  pub lost : r.lost ≡ (l.lost + (closing last.state last.carry chunk).result.lost) % 2 ^ 64
  pub carries : carryThen ≡ (closing last.state last.carry chunk).carry
  pub buffer : SameBuffer b c
