-- A frame fed alone as one chunk to a fresh parser gives that frame and nothing else.
use mathlib.Core.Path.{◌≡◌, refl, sym, ap, ◌∙◌}
use mathlib.Core.Bool.{true, true≢false}
use mathlib.Core.List.{List, [], ◌∷◌, ◌++◌, append-nil}
use Prim.Native.Nat.{ℕ, ◌+◌, ◌-◌, ◌≤◌, min}
use native.Mathlib.Nat.{zero-add}
use native.Mathlib.Omega.{arith}
use lib.ListN.{length, drop, length-append, drop_of_length-le}
use lib.Seq.{take_at}
use lib.Dec.{ltb, leb}
use borrow.Author.Tests.{lt-ltb, le-ltb, le-leb}
use Rattle.std.specs.Prelude.{Ok}
use Rattle.window.specs.declared.Mode.{Mode}
use Rattle.window.specs.Pick.{pick}
use Rattle.window.specs.Sync.{first}
use Rattle.claim.specs.Sizes.{skip, size}
use Rattle.claim.specs.Verdicts.{can_hand}
use Rattle.look.specs.Rules.{look}
use Rattle.look.specs.Moves.{step_move}
use Rattle.state.specs.declared.State.{State}
use Rattle.state.specs.Words.{width, idle}
use Rattle.state.proofs.Granted.{Usable, grant_use, Openable, grant_open}
use Rattle.state.proofs.Window.{drain_zero}
use Rattle.taking.specs.declared.Place.{Place}
use Rattle.taking.specs.View.{view}
use Rattle.taking.specs.Take.{taking}
use Rattle.framer.specs.declared.Answer.TheVariants.{UbxFrame, NeedMore}
use Rattle.opening.specs.Operations.{start, opening, closing}
use Rattle.framer.specs.Step.{out, step}
use Rattle.stream.specs.Scan.{Event}
use Rattle.stream.specs.Calls as calls
use Rattle.stream.specs.Calls.{Parser, Arg, Call, hears_all, loses_all, after_all}
use Rattle.stream.specs.Runs.{Phase, between, within, through, Follows, done, opened, stepped, spent, closed, refusal, viewed, joined}
use Rattle.stream.specs.Interface.{checksum, summed, frame, GoodFrame}
use Rattle.stream.specs.Frames.{body_of, hand_out}
use Rattle.stream.proofs.Cuts.{refused_still}
use Rattle.stream.proofs.Framed.{body_stands}
use Rattle.stream.proofs.Said.{frame_said}
use Rattle.written.specs.ComesBack.{body_at, GivesIt, AFrameComesBack, WhatIsWrittenComesBack, AFrameIsHeardAlone}
use Rattle.written.proofs.Filled.{every_cutting_writes_the_frame}

module _ (mode : Mode) (max : ℕ) (carry : List ℕ) (class id : ℕ) (payload : List ℕ)
    (small : length carry ≤ 16384) (short : length payload ≤ 16376) (fits : length payload ≤ max) where
  abbrev n : ℕ
  n = length payload

  abbrev chunk : List ℕ
  chunk = frame class id payload

  chunk_length : length chunk ≡ n + 8
  chunk_length = let ck = checksum (summed class id payload) in omega (arith, length-append payload (ck.ck_a ∷ ck.ck_b ∷ []))

  -- the fresh parser, and the open state with so much of the chunk used
  abbrev fresh : State
  fresh = idle mode max (length carry) 0

  abbrev at : ℕ → State
  at k = record { mode = mode; max = max; cap = length carry; live = 0; off = 0; used = k; «open» = true; chunk = length chunk; part = k }

  starts : (start mode max (length carry)).state ≡ fresh
  unfolding start pick
  starts = rw (le-ltb _ _ small)

  opens : opening fresh carry chunk ≡ record { leave = Ok tt; state = at 0 }
  unfolding opening first pick
  opens =
      let ok : Openable fresh carry chunk = record {
        sound = record { caps = refl; small = small; lives = omega arith; offs = omega arith; parts = omega arith; short = omega arith; counts = omega arith; idles = refl };
        closed = refl;
        fits = omega (arith, chunk_length);
      } in
      let some : ltb 0 (width (at 0)) ≡ true = lt-ltb 0 (width (at 0)) (omega (arith, chunk_length)) in
      rw (grant_open fresh carry chunk ok, some)

  usable : (k : ℕ) → k ≤ n + 8 → Usable (at k) carry chunk
  usable k h = record {
    ready = record {
      sane = record { caps = refl; lives = omega arith; offs = omega arith; parts = omega (arith, chunk_length); chunks = refl };
      small = small;
      short = omega (arith, chunk_length);
      counts = omega (arith, chunk_length);
    };
    opened = refl;
  }

  abbrev end : ℕ
  end = 6 + (n + 2)

  says : step (at 0) carry chunk ≡ out (UbxFrame class id 0 (body_at n)) (at end) carry
  unfolding step step_move taking pick
  says =
      let good : GoodFrame max chunk class id payload = record { fits = fits; rest = []; stands = sym (append-nil chunk) } in
      let whole : leb (6 + (n + 2)) (length chunk) ≡ true = le-leb (6 + (n + 2)) (length chunk) (omega (arith, chunk_length)) in
      let move = frame_said mode max chunk (λ kind. can_hand (length carry) 0 (length chunk) (skip kind) (size kind)) (ltb (length carry) (length chunk)) class id payload good (rw whole) in
      rw (grant_use (at 0) carry chunk (usable 0 (omega arith)), move)

  used_up : drop end chunk ≡ []
  used_up = drop_of_length-le chunk {i = end} (omega (arith, chunk_length))

  ends : step (at end) carry chunk ≡ out NeedMore (at end) carry
  unfolding step step_move look
  ends = rw (grant_use (at end) carry chunk (usable end (omega arith)), used_up) (ap (λ (s : State). out NeedMore s carry) (drain_zero (at end)))

  closes : closing (at end) carry chunk ≡ record { result = record { leave = Ok tt; used = end; kept = 0; lost = 0; state = fresh }; carry = carry }
  unfolding closing
  closes =
      let kept : min (width (at end)) (length carry) ≡ 0 = omega (arith, chunk_length) in
      let lost : width (at end) - length carry ≡ 0 = omega (arith, chunk_length) in
      let fit : min (length chunk - end) (length carry - 0) ≡ 0 = omega (arith, chunk_length) in
      rw (grant_use (at end) carry chunk (usable end (omega arith)), kept, lost, fit)

  body : view carry chunk (body_at n) ≡ body_of class id payload
  unfolding view pick
  body =
      let ck = checksum (summed class id payload) in
      rw (le-ltb (length chunk) (6 + (n + 2)) (omega (arith, chunk_length))) (body_stands class id payload ck.ck_a ck.ck_b [] chunk (sym (append-nil chunk)))

  comes : GivesIt mode max carry class id payload chunk
  comes = record {
    opens = rw (starts, opens);
    says = rw (starts, opens, says);
    body = rw (starts, opens, says) body;
    ends = rw (starts, opens, says, ends);
    closes = rw (starts, opens, says, ends, closes);
    used = rw (starts, opens, says, ends, closes) (omega arith);
    kept = rw (starts, opens, says, ends, closes);
    lost = rw (starts, opens, says, ends, closes);
    bytes = rw (starts, opens, says, ends, closes);
  }

  -- ---- the same of every run: what is heard from a parser on, by where the caller stands

  abbrev parser : State → ℕ → Parser
  parser s base = record { state = s; carry = carry; base = base }

  abbrev last : Parser
  last = parser fresh (n + 8)

  -- of these calls this is heard, nothing is lost, and the parser is the last one then
  record Told (p : Parser) (ks : List Call) (es : List Event) : Type 0 where
    hears : hears_all ks p ≡ es
    loses : loses_all ks p ≡ 0
    then : after_all ks p ≡ last

  next : (k : Call) (p q : Parser) (ks : List Call) (here es : List Event) → calls.after k p ≡ q → calls.hears k p ≡ here → calls.loses k p ≡ 0 → Told q ks es → Told p (k ∷ ks) (here ++ es)
  next k p q ks here es a h l t = record { hears = rw (a, h, t.hears); loses = rw (a, l, t.loses); then = rw (a, t.then) }

  -- a refused call, and a view
  still : (k : Call) (p : Parser) (ks : List Call) (es : List Event) → calls.refused k p ≡ true → Told (calls.after k p) ks es → Told p (k ∷ ks) es
  still k p ks es e t = let h = refused_still k p e in next k p (calls.after k p) ks [] es refl h.1 h.2 t

  looked : (m : Arg (List ℕ)) (c : List ℕ) (place : Place) (p : Parser) (ks : List Call) (es : List Event) → Told p ks es → Told p (calls.views m c place ∷ ks) es
  unfolding calls.after calls.hears calls.loses
  looked m c place p ks es t = next (calls.views m c place) p p ks [] es refl refl refl t

  -- closed
  told_last : {ph : Phase} {p : Parser} {ks : List Call} {cs : List (List ℕ)} → Follows ph p ks cs → ph ≡ between → cs ≡ [] → p ≡ last → Told p ks []
  unfolding calls.after
  told_last done e g q = record { hears = refl; loses = refl; then = q }
  told_last (opened r f) e g q = let z : ◌≡◌ {A = ℕ} 0 1 = cc in absurd (omega arith)
  told_last (stepped r m f) e g q = let z : ◌≡◌ {A = ℕ} 0 1 = cc in absurd (omega arith)
  told_last (spent r m f) e g q = let z : ◌≡◌ {A = ℕ} 0 1 = cc in absurd (omega arith)
  told_last (closed r f) e g q = let z : ◌≡◌ {A = ℕ} 0 1 = cc in absurd (omega arith)
  told_last (refusal {ph} {p} {k} {ks} r f) e g q = still k p ks [] r (told_last f e g ((refused_still k p r).0 ∙ q))
  told_last (viewed {ph} {p} {m} {c} {place} {ks} f) e g q = looked m c place p ks [] (told_last f e g q)

  -- through with the chunk
  told_through : {ph : Phase} {p : Parser} {ks : List Call} {cs : List (List ℕ)} → Follows ph p ks cs → ph ≡ through chunk → cs ≡ [] → p ≡ parser (at end) 0 → Told p ks []
  unfolding calls.after calls.hears calls.loses
  told_through done e g q = let z : ◌≡◌ {A = ℕ} 0 1 = cc in absurd (omega arith)
  told_through (opened r f) e g q = let z : ◌≡◌ {A = ℕ} 0 1 = cc in absurd (omega arith)
  told_through (stepped r m f) e g q = let z : ◌≡◌ {A = ℕ} 0 1 = cc in absurd (omega arith)
  told_through (spent r m f) e g q = let z : ◌≡◌ {A = ℕ} 0 1 = cc in absurd (omega arith)
  told_through (closed {p} {c} {ks} r f) e g q =
      let is : c ≡ chunk = cc in
      let count : end ≡ n + 8 = omega arith in
      let a : calls.after (calls.closes calls.own calls.own c) p ≡ last = rw (q, is, closes, count, zero-add) in
      let lost : (closing (at end) carry chunk).result.lost ≡ 0 = rw closes in
      next (calls.closes calls.own calls.own c) p (calls.after (calls.closes calls.own calls.own c) p) ks [] [] refl refl (rw (q, is) lost) (told_last f refl g a)
  told_through (refusal {ph} {p} {k} {ks} r f) e g q = still k p ks [] r (told_through f e g ((refused_still k p r).0 ∙ q))
  told_through (viewed {ph} {p} {m} {c} {place} {ks} f) e g q = looked m c place p ks [] (told_through f e g q)

  -- within it, the frame handed out: the next step needs more
  told_handed : {ph : Phase} {p : Parser} {ks : List Call} {cs : List (List ℕ)} → Follows ph p ks cs → ph ≡ within chunk → cs ≡ [] → p ≡ parser (at end) 0 → Told p ks []
  unfolding calls.after calls.hears calls.loses
  told_handed done e g q = let z : ◌≡◌ {A = ℕ} 0 1 = cc in absurd (omega arith)
  told_handed (opened r f) e g q = let z : ◌≡◌ {A = ℕ} 0 1 = cc in absurd (omega arith)
  told_handed (stepped {p} {c} r m f) e g q =
      let is : c ≡ chunk = cc in
      absurd (true≢false (rw (q, is, ends) at m))
  told_handed (spent {p} {c} {ks} r m f) e g q =
      let is : c ≡ chunk = cc in
      let k = calls.steps calls.own calls.own c in
      let a : calls.after k p ≡ parser (at end) 0 = rw (q, is, ends) in
      next k p (calls.after k p) ks [] [] refl (rw (q, is, ends)) refl (told_through f (ap through is) g a)
  told_handed (closed r f) e g q = let z : ◌≡◌ {A = ℕ} 0 1 = cc in absurd (omega arith)
  told_handed (refusal {ph} {p} {k} {ks} r f) e g q = still k p ks [] r (told_handed f e g ((refused_still k p r).0 ∙ q))
  told_handed (viewed {ph} {p} {m} {c} {place} {ks} f) e g q = looked m c place p ks [] (told_handed f e g q)

  abbrev event : Event
  event = hand_out 0 class id payload

  -- within it, just opened: the next step hands the frame out
  told_opened : {ph : Phase} {p : Parser} {ks : List Call} {cs : List (List ℕ)} → Follows ph p ks cs → ph ≡ within chunk → cs ≡ [] → p ≡ parser (at 0) 0 → Told p ks (event ∷ [])
  unfolding calls.after calls.hears calls.loses
  told_opened done e g q = let z : ◌≡◌ {A = ℕ} 0 1 = cc in absurd (omega arith)
  told_opened (opened r f) e g q = let z : ◌≡◌ {A = ℕ} 0 1 = cc in absurd (omega arith)
  told_opened (stepped {p} {c} {ks} r m f) e g q =
      let is : c ≡ chunk = cc in
      let k = calls.steps calls.own calls.own c in
      let a : calls.after k p ≡ parser (at end) 0 = rw (q, is, says) in
      next k p (calls.after k p) ks (event ∷ []) [] refl (rw (q, is, says, body)) refl (told_handed f (ap within is) g a)
  told_opened (spent {p} {c} r m f) e g q =
      let is : c ≡ chunk = cc in
      absurd (true≢false (sym (rw (q, is, says) at m)))
  told_opened (closed r f) e g q = let z : ◌≡◌ {A = ℕ} 0 1 = cc in absurd (omega arith)
  told_opened (refusal {ph} {p} {k} {ks} r f) e g q = still k p ks (event ∷ []) r (told_opened f e g ((refused_still k p r).0 ∙ q))
  told_opened (viewed {ph} {p} {m} {c} {place} {ks} f) e g q = looked m c place p ks (event ∷ []) (told_opened f e g q)

  -- before it
  told : {ph : Phase} {p : Parser} {ks : List Call} {cs : List (List ℕ)} → Follows ph p ks cs → ph ≡ between → cs ≡ chunk ∷ [] → p ≡ parser fresh 0 → Told p ks (event ∷ [])
  unfolding calls.after calls.hears calls.loses
  told done e g q = let z : ◌≡◌ {A = ℕ} 0 1 = cc in absurd (omega arith)
  told (opened {p} {c} {ks} {cs} r f) e g q =
      let is : c ≡ chunk = cc in
      let none : cs ≡ [] = cc in
      let k = calls.opens calls.own calls.own c in
      let a : calls.after k p ≡ parser (at 0) 0 = rw (q, is, opens) in
      next k p (calls.after k p) ks [] (event ∷ []) refl refl refl (told_opened f (ap within is) none a)
  told (stepped r m f) e g q = let z : ◌≡◌ {A = ℕ} 0 1 = cc in absurd (omega arith)
  told (spent r m f) e g q = let z : ◌≡◌ {A = ℕ} 0 1 = cc in absurd (omega arith)
  told (closed r f) e g q = let z : ◌≡◌ {A = ℕ} 0 1 = cc in absurd (omega arith)
  told (refusal {ph} {p} {k} {ks} r f) e g q = still k p ks (event ∷ []) r (told f e g ((refused_still k p r).0 ∙ q))
  told (viewed {ph} {p} {m} {c} {place} {ks} f) e g q = looked m c place p ks (event ∷ []) (told f e g q)

pub a_frame_comes_back : AFrameComesBack
a_frame_comes_back mode max carry class id payload h = comes mode max carry class id payload h.0 h.1 h.2

pub what_is_written_comes_back : WhatIsWrittenComesBack
what_is_written_comes_back mode max carry memory class id pieces h room =
    let payload = joined pieces in
    let front = take_at (frame class id payload) (drop (length payload + 8) memory) (length payload + 8) (chunk_length mode max carry class id payload h.0 h.1 h.2) in
    rw (every_cutting_writes_the_frame memory class id pieces h.1 room, front) (a_frame_comes_back mode max carry class id payload h)

pub a_frame_is_heard_alone : AFrameIsHeardAlone
a_frame_is_heard_alone mode max carry class id payload h calls f =
    let s = starts mode max carry class id payload h.0 h.1 h.2 in
    let t = told mode max carry class id payload h.0 h.1 h.2 f refl refl (rw s) in
    (t.hears, t.loses, t.then ∙ rw s)
