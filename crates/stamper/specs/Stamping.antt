-- What `stamps` makes of a chunk: each step's frame noted and counted, after those before it, until need more.
use Rattle.std.specs.Prelude.{◌≡◌, ℕ, ◌+◌, ◌%◌, ◌^◌, true, false, List, [], Option}
use Rattle.state.specs.declared.State.{State}
use Rattle.opening.specs.Operations.{opening, closing}
use Rattle.stamp.specs.Step.{TimedOut, step}
use Rattle.stamp_lines.specs.declared.Note.{Note}
use Rattle.stamp_lines.specs.declared.Tally.{Tally}
use Rattle.stamp_lines.specs.Notes.{noted, goes_on, tallied}
use Rattle.stamp_lines.specs.Lines.{line, totals}
use Rattle.text.specs.declared.lines.Lines.{Lines as Buffer}
use Rattle.text.specs.Adds.{SameBuffer}
use Rattle.teller.specs.declared.Run.{Run}
use Rattle.teller.specs.Words.{Point as Place, Words}
use Rattle.stamper.specs.declared.Stamping.{Stamping}

-- ---- steps with a chunk

-- what steps change
pub record Point : Type 0 where
  pub state : State
  pub clock : Option ℕ
  pub tally : Tally
  pub carry : List ℕ

abbrev pub timed : List ℕ → Point → TimedOut
timed chunk p = step p.clock p.state p.carry chunk

abbrev pub note_at : List ℕ → Point → Note
note_at chunk p = noted (timed chunk p).result.answer (timed chunk p).result.told

abbrev pub after : List ℕ → Point → Point
after chunk p = record {
  state = (timed chunk p).result.state;
  clock = (timed chunk p).result.clock;
  tally = tallied p.tally (note_at chunk p);
  carry = (timed chunk p).carry;
}

-- stepped until need more, or a refusal
pub data Ends (chunk : List ℕ) : Point → Point → Type 0 where
  stops : {p : Point} → goes_on (note_at chunk p) ≡ false → Ends chunk p (after chunk p)
  goes : {p q : Point} → goes_on (note_at chunk p) ≡ true → Ends chunk (after chunk p) q → Ends chunk p q

-- ---- a chunk

abbrev pub opened : Run Stamping → List ℕ → List ℕ → Point
opened l carry chunk = record { state = (opening l.state carry chunk).state; clock = l.by.clock; tally = l.by.tally; carry = carry }

-- a chunk: opened, stepped to its end, closed, and the close's report counted
pub record Through (l : Run Stamping) (carry chunk : List ℕ) (b : Buffer) (r : Run Stamping) (carryThen : List ℕ) (c : Buffer) : Type 0 where
  pub last : Point
  pub ends : Ends chunk (opened l carry chunk) last
  pub state : r.state ≡ (closing last.state last.carry chunk).result.state
  pub clock : r.by.clock ≡ last.clock
  pub tally : r.by.tally ≡ last.tally
  pub used : r.used ≡ (l.used + (closing last.state last.carry chunk).result.used) % 2 ^ 64
  pub kept : r.kept ≡ (closing last.state last.carry chunk).result.kept
  pub lost : r.lost ≡ (l.lost + (closing last.state last.carry chunk).result.lost) % 2 ^ 64
  pub carries : carryThen ≡ (closing last.state last.carry chunk).carry
  pub buffer : SameBuffer b c

-- ---- the stamps as a teller

abbrev pub point_at : Place Stamping → Point
point_at p = record { state = p.state; clock = p.by.clock; tally = p.by.tally; carry = p.carry }

abbrev pub place_at : Point → Place Stamping
place_at p = record { by = record { clock = p.clock; tally = p.tally }; state = p.state; carry = p.carry }

abbrev pub stamping : Words Stamping
stamping = record {
  first = λ mode max cap. [];
  after = λ chunk p. place_at (after chunk (point_at p));
  line = λ before chunk p. line before (note_at chunk (point_at p));
  goes_on = λ chunk p. goes_on (note_at chunk (point_at p));
  last = λ by used kept lost. totals by.tally used kept lost;
}
