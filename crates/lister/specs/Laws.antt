-- An answer with a line uses up a byte or more, so a listing gets on.
use Rattle.std.proofs.Common.{◌≡◌, ℕ, suc, ◌+◌, ◌<◌, Bool, true, false, not, ◌||◌, ltb, List, [], length, sym, refl, true≢false, arith, le-ltb, lt-ltb}
use Rattle.window.specs.declared.Mode.{Mode}
use Rattle.state.specs.declared.State.{State}
use Rattle.state.specs.Words.{width}
use Rattle.state.specs.Refusals.{may_use}
use Rattle.state.proofs.Granted.{use_granted}
use Rattle.framer.specs.declared.Answer.{Answer, TheVariants.{UbxFrame, RtcmFrame, Sentence, WrongSum, NoRoom, NeedMore, Refused, WrongParity}}
use Rattle.framer.specs.Step.{step_on, step_from, step}
use Rattle.framer.specs.Reached.{is_need_more, is_refused}
use Rattle.framer.proofs.Account.{step_keeps}
use Rattle.framer.proofs.Totals.{stepped_granted}
use Rattle.lines.specs.Lines.{line}
use Rattle.teller.specs.Words.{Uses, GetsOn}
use Rattle.lister.specs.Listing.{has_line, listing}

longer : (at : ℕ) (l : List ℕ) → 0 < length l → ltb at (at + length l) ≡ true
longer at l h = lt-ltb at (at + length l) (omega arith)

-- the bytes that wait become more just where an answer has a line
pub grows : (named : Bool) (mode : Mode) (before at : ℕ) (a : Answer) → ltb at (at + length (line named mode before a)) ≡ has_line a
unfolding line
grows named mode before at (UbxFrame class id p place) = longer at (line named mode before (UbxFrame class id p place)) (omega arith)
grows named mode before at (RtcmFrame p place) = longer at (line named mode before (RtcmFrame p place)) (omega arith)
grows named mode before at (Sentence p place) = longer at (line named mode before (Sentence p place)) (omega arith)
grows named mode before at (WrongSum class id n p expect got) = longer at (line named mode before (WrongSum class id n p expect got)) (omega arith)
grows named mode before at (NoRoom p size) = longer at (line named mode before (NoRoom p size)) (omega arith)
grows named mode before at NeedMore = le-ltb at (at + 0) (omega arith)
grows named mode before at (Refused r) = le-ltb at (at + 0) (omega arith)
grows named mode before at (WrongParity p expect got) = longer at (line named mode before (WrongParity p expect got)) (omega arith)

-- and an answer with none adds nothing
pub line_none : (named : Bool) (mode : Mode) (before : ℕ) (a : Answer) → has_line a ≡ false → line named mode before a ≡ []
unfolding line
line_none named mode before (UbxFrame class id p place) e = absurd (true≢false e)
line_none named mode before (RtcmFrame p place) e = absurd (true≢false e)
line_none named mode before (Sentence p place) e = absurd (true≢false e)
line_none named mode before (WrongSum class id n p expect got) e = absurd (true≢false e)
line_none named mode before (NoRoom p size) e = absurd (true≢false e)
line_none named mode before NeedMore e = refl
line_none named mode before (Refused r) e = refl
line_none named mode before (WrongParity p expect got) e = absurd (true≢false e)

neither : (x y : Bool) → not (x || y) ≡ true → (x ≡ false) × (y ≡ false)
neither false false e = (refl, refl)
neither false true e = absurd (true≢false (sym e))
neither true y e = absurd (true≢false (sym e))

not_refused : (a : Answer) → has_line a ≡ true → is_refused a ≡ false
not_refused a e = (neither (is_need_more a) (is_refused a) e).1

not_need_more : (a : Answer) → has_line a ≡ true → is_need_more a ≡ false
not_need_more a e = (neither (is_need_more a) (is_refused a) e).0

-- a step with a line uses up a byte or more, of 32,768 at most
pub line_uses : (s : State) (carry chunk : List ℕ) → has_line (step s carry chunk).result.answer ≡ true → Uses s (step s carry chunk).result.state
unfolding step
line_uses s carry chunk e =
    let a = (step_on s carry chunk (may_use s (length carry) (length chunk))).result.answer in
    let gr = stepped_granted s carry chunk (may_use s (length carry) (length chunk)) (not_refused a e) in
    let ready = (use_granted s carry chunk gr).ready in
    let k = step_keeps chunk (suc (width s)) s carry ready.sane (omega arith) in
    let some : 0 < k.gone = k.some (not_need_more (step_from s carry chunk).result.answer (rw gr at e)) in
    rw gr (record { more = omega (arith, k.used_by); within = omega (arith, k.used_by, k.within, ready.counts) })

pub listing_gets_on : GetsOn listing
listing_gets_on = record {
  uses = λ chunk p e. line_uses p.state p.carry chunk e;
  silent = λ before chunk p e. line_none p.by.named p.state.mode before (step p.state p.carry chunk).result.answer e;
}
