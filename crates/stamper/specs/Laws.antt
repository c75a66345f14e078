-- Steps with a chunk get on, and end in one way only.
use Rattle.std.proofs.Common.{◌≡◌, ℕ, true, false, List, [], Option, Result, sym, refl, ◌∙◌, true≢false}
use Rattle.framer.specs.declared.Answer.{Answer, TheVariants.{UbxFrame, RtcmFrame, Sentence, WrongSum, NoRoom, NeedMore, Refused, WrongParity}}
use Rattle.lister.specs.Listing.{has_line}
use Rattle.lister.specs.Laws.{line_uses}
use Rattle.stamp.specs.declared.Fault.{Fault}
use Rattle.stamp.specs.declared.Reading.{Reading}
use Rattle.stamp.specs.Step.{step}
use Rattle.stamp_lines.specs.declared.Note.{Note, TheVariants.{Time, Other, Sum, Passed, End}}
use Rattle.stamp_lines.specs.Notes.{noted, goes_on}
use Rattle.stamp_lines.specs.Lines.{line}
use Rattle.teller.specs.Words.{Uses, GetsOn}
use Rattle.stamper.specs.Stamping.{Point, timed, note_at, after, Ends, stops, goes, point_at, stamping}

said_something : (a : Answer) (told : Option (Result Reading Fault)) → goes_on (noted a told) ≡ true → has_line a ≡ true
said_something (UbxFrame class id p place) told e = refl
said_something (RtcmFrame p place) told e = refl
said_something (Sentence p place) told e = refl
said_something (WrongSum class id n p expect got) told e = refl
said_something (NoRoom p size) told e = refl
said_something NeedMore told e = absurd (true≢false (sym e))
said_something (Refused r) told e = absurd (true≢false (sym e))
said_something (WrongParity p expect got) told e = refl

-- a step after which there may be more uses up a byte or more, of 32,768 at most
pub uses : (chunk : List ℕ) (p : Point) → goes_on (note_at chunk p) ≡ true → Uses p.state (after chunk p).state
unfolding step
uses chunk p e = line_uses p.state p.carry chunk (said_something (timed chunk p).result.answer (timed chunk p).result.told e)

-- where steps end is determined
pub ends_determined : {chunk : List ℕ} {p q r : Point} → Ends chunk p q → Ends chunk p r → q ≡ r
ends_determined (stops e) (stops f) = refl
ends_determined (stops e) (goes f z) = absurd (true≢false (sym f ∙ e))
ends_determined (goes e y) (stops f) = absurd (true≢false (sym e ∙ f))
ends_determined (goes e y) (goes f z) = ends_determined y z

silent : (before : ℕ) (note : Note) → goes_on note ≡ false → line before note ≡ []
silent before (Time p reading) e = absurd (true≢false e)
silent before Other e = refl
silent before Sum e = refl
silent before Passed e = refl
silent before End e = refl

pub stamping_gets_on : GetsOn stamping
stamping_gets_on = record {
  uses = λ chunk p e. uses chunk (point_at p) e;
  silent = λ before chunk p e. silent before (note_at chunk (point_at p)) e;
}
