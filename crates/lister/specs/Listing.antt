-- What a listing says of a chunk: the lines of its answers, in turn, and no others.
use Rattle.std.specs.Prelude.{◌≡◌, ℕ, ◌+◌, ◌%◌, ◌^◌, Bool, true, false, not, ◌||◌, List, [], ◌++◌}
use Rattle.state.specs.declared.State.{State}
use Rattle.framer.specs.declared.Answer.{Answer}
use Rattle.opening.specs.Operations.{opening, closing}
use Rattle.framer.specs.Step.{step}
use Rattle.framer.specs.Reached.{is_need_more, is_refused}
use Rattle.ends.specs.Ends.{header, totals}
use Rattle.lines.specs.Lines.{line}
use Rattle.teller.specs.declared.Run.{Run}
use Rattle.teller.specs.Words.{Words}
use Rattle.lister.specs.declared.Listing.{Listing}

-- frames, wrong sums, wrong parities and no room have a line
abbrev pub has_line : Answer → Bool
has_line a = not (is_need_more a || is_refused a)

-- the lines of so many steps with a chunk, from a state and its carry on, each of which has one, in the mode of the state that
-- steps; and the state and the carry then
pub data Lines (named : Bool) (before : ℕ) (chunk : List ℕ) (s : State) (carry : List ℕ) : List ℕ → State → List ℕ → Type 0 where
  no_line : Lines named before chunk s carry [] s carry
  next_line : {text : List ℕ} {t : State} {mid : List ℕ} → Lines named before chunk s carry text t mid → has_line (step t mid chunk).result.answer ≡ true
      → Lines named before chunk s carry (text ++ line named t.mode before (step t mid chunk).result.answer) (step t mid chunk).result.state (step t mid chunk).carry

-- and whether there may be more: the buffer is full; or the next step had no line, and those are all
pub data Filled (named : Bool) (before : ℕ) (chunk : List ℕ) (s : State) (carry : List ℕ) : Bool → List ℕ → State → List ℕ → Type 0 where
  is_full : {text : List ℕ} {t : State} {mid : List ℕ} → Lines named before chunk s carry text t mid → Filled named before chunk s carry true text t mid
  is_whole : {text : List ℕ} {t : State} {mid : List ℕ} → Lines named before chunk s carry text t mid → has_line (step t mid chunk).result.answer ≡ false
      → Filled named before chunk s carry false text (step t mid chunk).result.state (step t mid chunk).carry

-- a chunk: opened, all its answers, closed, and the close's report counted
pub record Lists (l : Run Listing) (carry chunk : List ℕ) (r : Run Listing) (carryThen : List ℕ) : Type 0 where
  pub text : List ℕ
  pub last : State
  pub mid : List ℕ
  pub says : Filled l.by.named l.used chunk (opening l.state carry chunk).state carry false text last mid
  pub state : r.state ≡ (closing last mid chunk).result.state
  pub used : r.used ≡ (l.used + (closing last mid chunk).result.used) % 2 ^ 64
  pub kept : r.kept ≡ (closing last mid chunk).result.kept
  pub lost : r.lost ≡ (l.lost + (closing last mid chunk).result.lost) % 2 ^ 64
  pub named : r.by.named ≡ l.by.named
  pub carries : carryThen ≡ (closing last mid chunk).carry

-- ---- the listing as a teller

abbrev pub listing : Words Listing
listing = record {
  first = header;
  after = λ chunk p. let o = step p.state p.carry chunk in record { by = p.by; state = o.result.state; carry = o.carry };
  line = λ before chunk p. line p.by.named p.state.mode before (step p.state p.carry chunk).result.answer;
  goes_on = λ chunk p. has_line (step p.state p.carry chunk).result.answer;
  last = λ by used kept lost. totals used kept lost;
}
