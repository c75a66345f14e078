-- A teller wrapped in another, which adds nothing: of a step each says what the other says.
use Rattle.teller.specs.declared.Run.{Run}
use Rattle.teller.specs.declared.plain.Plain.{Plain}
use Rattle.teller.specs.Words.{Point, Words, GetsOn}

-- where a program stands, with what another teller has beside
abbrev pub run_with : {M N : Type 0} → Run M → N → Run N
run_with l by = record { state = l.state; used = l.used; kept = l.kept; lost = l.lost; up = l.up; by = by }

abbrev pub point_with : {M N : Type 0} → Point M → N → Point N
point_with p by = record { by = by; state = p.state; carry = p.carry }

abbrev pub within : {M : Type 0} → Point (Plain M) → Point M
within p = point_with p p.by.by

abbrev pub around : {M : Type 0} → Point M → Point (Plain M)
around p = point_with p (record { by = p.by })

abbrev pub plain_words : {M : Type 0} → Words M → Words (Plain M)
plain_words w = record {
  first = w.first;
  after = λ chunk p. around (w.after chunk (within p));
  line = λ before chunk p. w.line before chunk (within p);
  goes_on = λ chunk p. w.goes_on chunk (within p);
  last = λ m used kept lost. w.last m.by used kept lost;
}

pub plain_gets_on : {M : Type 0} {w : Words M} → GetsOn w → GetsOn (plain_words w)
plain_gets_on on = record {
  uses = λ chunk p e. on.uses chunk (within p) e;
  silent = λ before chunk p e. on.silent before chunk (within p) e;
}
