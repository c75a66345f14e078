-- Scans as walks, by any moves that more bytes do not change. No mode is named here.
use mathlib.Core.Path.{◌≡◌, refl, sym, ap, ◌∙◌}
use mathlib.Core.Bool.{Bool, true, false, true≢false}
use mathlib.Core.List.Memᴰ.{append_cases as among_cases}
use mathlib.Core.List.Memᴰ.{eq_of_singleton as among_one}
use mathlib.Core.List.Memᴰ.{not-nil as among-nil}
use mathlib.Core.List.{List, [], ◌∷◌, ◌++◌, append_assoc, Memᴰ as Among}
use mathlib.Core.Logic.{⊎_elim}
use Prim.Native.Nat.{ℕ, zero, suc, ◌+◌, ◌-◌, ◌≤◌, ◌<◌}
use native.Mathlib.Nat.{add-zero}
use native.Mathlib.Omega.{arith}
use lib.ListN.{length, drop, length-drop}
use lib.Seq.{take-append-le, drop-append-le, drop-drop}
use Rattle.claim.specs.declared.Kind.{Kind}
use Rattle.claim.specs.declared.Tale.{Tale}
use Rattle.claim.specs.declared.Verdict.TheVariants.{Wait, Tell, Hand}
use Rattle.claim.specs.Sizes.{skip, size}
use Rattle.claim.specs.Verdicts.{cost}
use Rattle.look.specs.declared.Sight.{Sight, TheVariants.{Pass, Say}}
use Rattle.look.specs.Rules.{far}
use Rattle.look.specs.Within.{whole}
use Rattle.stream.specs.Scan.{Event, frame_said, tale_said, body, Scan, ended, scan_at, scan_by, scan_from}

-- ---- a move: whether it ends the scan, how far it goes on, and what it answers at position p

abbrev pub ends : Sight → Bool
ends (Pass y) = false
ends (Say (Wait k)) = true
ends (Say (Tell t)) = false
ends (Say (Hand kind)) = false

abbrev pub gone : Sight → ℕ
gone (Pass y) = far y
gone (Say (Wait k)) = k
gone (Say (Tell t)) = cost t
gone (Say (Hand kind)) = whole kind

abbrev pub says : ℕ → List ℕ → Sight → List Event
says p W (Pass y) = []
says p W (Say (Wait k)) = []
says p W (Say (Tell t)) = record { at = p; said = tale_said t } ∷ []
says p W (Say (Hand kind)) = record { at = p; said = frame_said kind (body kind W) } ∷ []

-- by what an answer is said: a tale, or a frame that is handed out
pub data SaidBy (W : List ℕ) (e : Event) : Sight → Type 0 where
  by_tale : (t : Tale) → e.said ≡ tale_said t → SaidBy W e (Say (Tell t))
  by_frame : (kind : Kind) → e.said ≡ frame_said kind (body kind W) → SaidBy W e (Say (Hand kind))

pub said_by : (p : ℕ) (W : List ℕ) (m : Sight) (e : Event) → Among e (says p W m) → SaidBy W e m
said_by p W (Pass y) e a = absurd (among-nil a)
said_by p W (Say (Wait k)) e a = absurd (among-nil a)
said_by p W (Say (Tell t)) e a = by_tale t (ap (λ (x : Event). x.said) (among_one a))
said_by p W (Say (Hand kind)) e a = by_frame kind (ap (λ (x : Event). x.said) (among_one a))

-- moves that more bytes do not change, and that go on by a byte at least and within the window
pub record Steady (move : List ℕ → Sight) : Type 0 where
  pub grow : (W Z : List ℕ) → ends (move W) ≡ false → move (W ++ Z) ≡ move W
  pub goes : (W : List ℕ) → ends (move W) ≡ false → (0 < gone (move W)) × (gone (move W) ≤ length W)

-- what is answered within the window does not change either
says_grow : (p : ℕ) (W Z : List ℕ) (m : Sight) → gone m ≤ length W → says p (W ++ Z) m ≡ says p W m
says_grow p W Z (Pass y) h = refl
says_grow p W Z (Say (Wait k)) h = refl
says_grow p W Z (Say (Tell t)) h = refl
says_grow p W Z (Say (Hand kind)) h =
    let s : skip kind ≤ length W = omega arith in
    let t : size kind ≤ length (drop (skip kind) W) = rw length-drop (omega arith) in
    rw (drop-append-le (skip kind) W Z s, take-append-le (size kind) (drop (skip kind) W) Z t)

-- ---- walks: moves from position p, where W stands, to position q, where X stands, with all that they answer

pub data Walk (move : List ℕ → Sight) : ℕ → List ℕ → List Event → ℕ → List ℕ → Type 0 where
  here : {p : ℕ} {W : List ℕ} → Walk move p W [] p W
  turn : {p q : ℕ} {W X : List ℕ} {es : List Event} → ends (move W) ≡ false
      → Walk move (p + gone (move W)) (drop (gone (move W)) W) es q X → Walk move p W (says p W (move W) ++ es) q X

module _ (move : List ℕ → Sight) where
  pub join : {p q r : ℕ} {W X Y : List ℕ} {es fs : List Event} → Walk move p W es q X → Walk move q X fs r Y → Walk move p W (es ++ fs) r Y
  join here h = h
  join (turn e g) h = rw append_assoc (turn e (join g h))

  -- a turn whose move, and what it leaves, are given by equations
  pub turn_by : {p q : ℕ} {X : List ℕ} {es : List Event} (W Y : List ℕ) (m : Sight) → move W ≡ m → ends m ≡ false → drop (gone m) W ≡ Y
      → Walk move (p + gone m) Y es q X → Walk move p W (says p W m ++ es) q X
  turn_by {p} {q} {X} {es} W Y m e h d g =
      let h' : ends (move W) ≡ false = rw e h in
      let g' : Walk move (p + gone (move W)) (drop (gone (move W)) W) es q X = rw (e, d) g in
      rw (← e) (turn {W = W} {X = X} h' g')

  -- each answer of a walk is said at its place
  says_at : (p : ℕ) (W : List ℕ) (m : Sight) (e : Event) → Among e (says p W m) → e.at ≡ p
  says_at p W (Pass y) e a = absurd (among-nil a)
  says_at p W (Say (Wait k)) e a = absurd (among-nil a)
  says_at p W (Say (Tell t)) e a = ap (λ (x : Event). x.at) (among_one a)
  says_at p W (Say (Hand kind)) e a = ap (λ (x : Event). x.at) (among_one a)

  pub said_at : {p q : ℕ} {W X : List ℕ} {es : List Event} → Walk move p W es q X → (e : Event) → Among e es
      → (k : ℕ) × (e.at ≡ p + k) × Among e (says (p + k) (drop k W) (move (drop k W)))
  said_at here e a = absurd (among-nil a)
  said_at (turn {p} {q} {W} {X} {es} n g) e a = ⊎_elim now (λ b. later (said_at g e b)) (among_cases (says p W (move W)) a)
    where
      now : Among e (says p W (move W)) → (k : ℕ) × (e.at ≡ p + k) × Among e (says (p + k) (drop k W) (move (drop k W)))
      now b = let h = says_at p W (move W) e b in (0, omega arith, rw add-zero b)

      later : (k : ℕ) × (e.at ≡ p + gone (move W) + k) × Among e (says (p + gone (move W) + k) (drop k (drop (gone (move W)) W)) (move (drop k (drop (gone (move W)) W))))
          → (k : ℕ) × (e.at ≡ p + k) × Among e (says (p + k) (drop k W) (move (drop k W)))
      later (k, h, b) = let at : p + gone (move W) + k ≡ p + (gone (move W) + k) = omega arith in (gone (move W) + k, omega arith, rw (at, drop-drop) at b)

  module _ (steady : Steady move) where
    -- the same walk with more bytes behind
    pub extended : {p q : ℕ} {W X : List ℕ} {es : List Event} (Z : List ℕ) → Walk move p W es q X → Walk move p (W ++ Z) es q (X ++ Z)
    extended Z here = here
    extended Z (turn {p} {W = W} e g) =
        let fits : gone (move W) ≤ length W = (steady.goes W e).1 in
        rw (← says_grow p W Z (move W) fits)
        (turn_by (W ++ Z) (drop (gone (move W)) W ++ Z) (move W) (steady.grow W Z e) e (drop-append-le (gone (move W)) W Z fits) (extended Z g))

    -- at the end of the stream the scan ends
    pub nothing_ends : ends (move []) ≡ true
    nothing_ends = go (ends (move [])) refl
      where
        go : (b : Bool) → ends (move []) ≡ b → ends (move []) ≡ true
        go true e = e
        go false e = absurd (omega (arith, (steady.goes [] e).0, (steady.goes [] e).1))

    -- ---- the scan is the walk that ends

    scan_turn : (p : ℕ) (W : List ℕ) (m : Sight) (on : ℕ → Scan) → ends m ≡ false
        → scan_at p W m on ≡ record { answers = says p W m ++ (on (gone m)).answers; tail_at = (on (gone m)).tail_at; tail = (on (gone m)).tail }
    scan_turn p W (Pass y) on e = refl
    scan_turn p W (Say (Wait k)) on e = absurd (true≢false e)
    scan_turn p W (Say (Tell t)) on e = refl
    scan_turn p W (Say (Hand kind)) on e = refl

    scan_end : (p : ℕ) (W : List ℕ) (m : Sight) (on : ℕ → Scan) → ends m ≡ true → scan_at p W m on ≡ ended p W
    scan_end p W (Pass y) on e = absurd (true≢false (sym e))
    scan_end p W (Say (Wait k)) on e = refl
    scan_end p W (Say (Tell t)) on e = absurd (true≢false (sym e))
    scan_end p W (Say (Hand kind)) on e = absurd (true≢false (sym e))

    pub scans : {p q : ℕ} {W X : List ℕ} {es : List Event} (turns : ℕ) → length W ≤ turns → Walk move p W es q X → ends (move X) ≡ true
        → scan_by move turns p W ≡ record { answers = es; tail_at = q; tail = X }
    scans zero h here last = refl
    scans (suc n) h (here {p} {W}) last = scan_end p W (move W) (λ k. scan_by move n (p + k) (drop k W)) last
    scans zero h (turn {W = W} e g) last = absurd (omega (arith, (steady.goes W e).0, (steady.goes W e).1))
    scans {p = p} (suc n) h (turn {W = W} e g) last =
        let k : length (drop (gone (move W)) W) ≤ n = rw length-drop (omega (arith, (steady.goes W e).0, (steady.goes W e).1)) in
        scan_turn p W (move W) (λ k. scan_by move n (p + k) (drop k W)) e ∙ rw (scans {p = p + gone (move W)} n k g last)

    pub scanned : (turns p : ℕ) (W : List ℕ) → length W ≤ turns
        → Walk move p W (scan_by move turns p W).answers (scan_by move turns p W).tail_at (scan_by move turns p W).tail × (ends (move (scan_by move turns p W).tail) ≡ true)
    scanned zero p [] h = (here, nothing_ends)
    scanned zero p (x ∷ W) h = absurd (omega arith)
    scanned (suc n) p W h = go (ends (move W)) refl (λ k l. scanned n (p + k) (drop k W) l)
      where
        on : ℕ → Scan
        on k = scan_by move n (p + k) (drop k W)

        go : (b : Bool) → ends (move W) ≡ b → ((k : ℕ) → length (drop k W) ≤ n → Walk move (p + k) (drop k W) (on k).answers (on k).tail_at (on k).tail × (ends (move (on k).tail) ≡ true))
            → Walk move p W (scan_at p W (move W) on).answers (scan_at p W (move W) on).tail_at (scan_at p W (move W) on).tail × (ends (move (scan_at p W (move W) on).tail) ≡ true)
        go true e ih = rw (scan_end p W (move W) on e) (here, e)
        go false e ih =
            let r = ih (gone (move W)) (rw length-drop (omega (arith, (steady.goes W e).0, (steady.goes W e).1))) in
            rw (scan_turn p W (move W) on e) (turn e r.0, r.1)

    -- so the number of turns does not show: a scan is one turn, and the scan from where that goes on
    enough : (f g p : ℕ) (W : List ℕ) → length W ≤ f → length W ≤ g → scan_by move f p W ≡ scan_by move g p W
    enough f g p W hf hg = let r = scanned g p W hg in scans f hf r.0 r.1

    same_on : (p : ℕ) (W : List ℕ) (m : Sight) (on next : ℕ → Scan) → (ends m ≡ false → on (gone m) ≡ next (gone m)) → scan_at p W m on ≡ scan_at p W m next
    same_on p W (Pass y) on next e = e refl
    same_on p W (Say (Wait k)) on next e = refl
    same_on p W (Say (Tell t)) on next e = rw (e refl)
    same_on p W (Say (Hand kind)) on next e = rw (e refl)

    pub scan_on : (p : ℕ) (W : List ℕ) → scan_from move p W ≡ scan_at p W (move W) (λ k. scan_from move (p + k) (drop k W))
    scan_on p W =
        enough (length W) (suc (length W)) p W (omega arith) (omega arith)
        ∙ same_on p W (move W) (λ k. scan_by move (length W) (p + k) (drop k W)) (λ k. scan_from move (p + k) (drop k W))
        (λ _. enough (length W) (length (drop (gone (move W)) W)) (p + gone (move W)) (drop (gone (move W)) W) (rw length-drop (omega arith)) (omega arith))

    -- ---- a walk passes the bytes that it goes on by, so the unfinished tail is the stream from its position on

    pub passes : {p q : ℕ} {W X : List ℕ} {es : List Event} → Walk move p W es q X → (k : ℕ) × (q ≡ p + k) × (k ≤ length W) × (X ≡ drop k W)
    passes (here {p} {W}) = (0, omega arith, omega arith, refl)
    passes (turn {p} {W = W} e g) =
        let r = passes g in
        let l : r.0 ≤ length W - gone (move W) = rw length-drop at r.2 in
        (gone (move W) + r.0, omega (arith, r.1), omega (arith, l, (steady.goes W e).1), r.3 ∙ drop-drop r.0 (gone (move W)) W)

    pub tail_is : (stream : List ℕ) → let r = scan_from move 0 stream in (r.tail ≡ drop r.tail_at stream) × (r.tail_at ≤ length stream)
    tail_is stream =
        let k = passes (scanned (length stream) 0 stream (omega arith)).0 in
        let e : k.0 ≡ (scan_from move 0 stream).tail_at = omega (arith, k.1) in
        (rw (← e) k.3, rw (← e) k.2)
