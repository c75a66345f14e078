-- The memory after each call of a run: the head and the payload so far stand at its front, and it is as it was behind them.
use mathlib.Core.Path.{◌≡◌, refl, sym, ap, ◌∙◌}
use mathlib.Core.List.{List, [], ◌∷◌, ◌++◌, append_assoc, append-nil}
use Prim.Native.Nat.{ℕ, ◌+◌, ◌≤◌}
use native.Mathlib.Numerals.{add-four}
use native.Mathlib.Omega.{arith}
use lib.ListN.{length, take, drop, length-append, length-drop}
use lib.Seq.{take-length, take_at, drop-append-add, drop-drop}
use Rattle.std.specs.Prelude.{Result, Ok, Err, ⊤}
use Rattle.stream.specs.Runs.{joined}
use Rattle.stream.specs.Interface.{loop, checksum, summed, frame}
use Rattle.stream.proofs.Checksum.{checksum_is}
use Rattle.writer_state.specs.declared.Writer.{Writer}
use Rattle.writer_state.specs.declared.Refusal.{Refusal}
use Rattle.writer_state.specs.Refusals.{may_begin, may_add, may_finish}
use Rattle.writer.specs.Writing.{WriteOut, put, state, head, begin_on, beginning, add_on, adding, check, finish_on, finishing}
use Rattle.writer_state.proofs.Granted.{Fits, grant_begin, Sound, grant_add, finish_granted, grant_finish}
use Rattle.written.specs.Runs.{Fills, done, added, not_added, not_begun, not_finished, OnlyTheFrame, AllGranted, EveryCuttingIsTaken, written, EveryCuttingWritesTheFrame, PollIsAFrame}

pub poll_is_a_frame : PollIsAFrame
unfolding loop
poll_is_a_frame = refl

-- ---- bytes at the front, and more bytes put behind them

abbrev front : List ℕ → List ℕ → List ℕ
front bytes memory = bytes ++ drop (length bytes) memory

length_front : (bytes memory : List ℕ) → length bytes ≤ length memory → length (front bytes memory) ≡ length memory
length_front bytes memory h = simp (length-append, length-drop) (omega arith)

put_front : (memory bytes more : List ℕ) (at : ℕ) → at ≡ length bytes → put (front bytes memory) at more ≡ front (bytes ++ more) memory
put_front memory bytes more at e =
    let t : take at (front bytes memory) ≡ bytes = take_at bytes (drop (length bytes) memory) at (sym e) in
    let d : drop (at + length more) (front bytes memory) ≡ drop (length (bytes ++ more)) memory =
    rw (e, drop-append-add bytes (drop (length bytes) memory) (length more), drop-drop (length more) (length bytes) memory, length-append bytes more) in
    rw (t, take-length more, d)

-- ---- each call by its leave

module _ (memory : List ℕ) (class id n : ℕ) (l : Result ⊤ Refusal) where
  begin_on_is : may_begin (length memory) n ≡ l → beginning memory class id n ≡ begin_on memory class id n l
  unfolding beginning
  begin_on_is g = rw g

  begin_leave : (beginning memory class id n).result.leave ≡ l → may_begin (length memory) n ≡ l
  unfolding beginning
  begin_leave e = sym (leaves (may_begin (length memory) n)) ∙ e
    where
      leaves : (k : Result ⊤ Refusal) → (begin_on memory class id n k).result.leave ≡ k
      leaves (Ok tt) = refl
      leaves (Err r) = refl

module _ (w : Writer) (m : List ℕ) (l : Result ⊤ Refusal) where
  add_on_is : (p : List ℕ) → may_add w (length m) (length p) ≡ l → adding w m p ≡ add_on w m p l
  unfolding adding
  add_on_is p g = rw g

  add_leave : (p : List ℕ) → (adding w m p).result.leave ≡ l → may_add w (length m) (length p) ≡ l
  unfolding adding
  add_leave p e = sym (leaves (may_add w (length m) (length p))) ∙ e
    where
      leaves : (k : Result ⊤ Refusal) → (add_on w m p k).result.leave ≡ k
      leaves (Ok tt) = refl
      leaves (Err r) = refl

  finish_on_is : may_finish w (length m) ≡ l → finishing w m ≡ finish_on w m l
  unfolding finishing
  finish_on_is g = rw g

  finish_leave : (finishing w m).result.leave ≡ l → may_finish w (length m) ≡ l
  unfolding finishing
  finish_leave e = sym (leaves (may_finish w (length m))) ∙ e
    where
      leaves : (k : Result ⊤ Refusal) → (finish_on w m k).result.leave ≡ k
      leaves (Ok tt) = refl
      leaves (Err r) = refl

-- ---- in the middle of a run

module _ (memory : List ℕ) (class id n : ℕ) where
  -- the payload so far is P
  record Holds (P : List ℕ) (w : Writer) (m : List ℕ) : Type 0 where
    is : w ≡ state (length memory) n (length P)
    bytes : m ≡ front (head class id n ++ P) memory

  -- a granted piece
  more : (P p : List ℕ) (w : Writer) (m : List ℕ) → Holds P w m → adding w m p ≡ add_on w m p (Ok tt) → Holds (P ++ p) (adding w m p).result.state (adding w m p).memory
  more P p w m h a =
      let at : 6 + length P ≡ length (head class id n ++ P) = omega arith in
      record {
        is = rw (a, h.is, length-append P p);
        bytes = rw (a, h.is, h.bytes) (put_front memory (head class id n ++ P) p (6 + length P) at);
      }

  filled : (P : List ℕ) {ps : List (List ℕ)} {w v : Writer} {m after : List ℕ} → Fills w m ps v after → Holds P w m → Holds (P ++ joined ps) v after
  filled P done h = rw append-nil h
  filled P (added {w} {v} {m} {after} {p} {ps} e f) h = rw append_assoc at (filled (P ++ p) f (more P p w m h (add_on_is w m (Ok tt) p (add_leave w m (Ok tt) p e))))
  filled P {w = w} {m = m} (not_added p r e f) h = filled P f (rw (add_on_is w m (Err r) p (add_leave w m (Err r) p e)) h)
  filled P {m = m} (not_begun c i k r e f) h = filled P f (rw (begin_on_is m c i k (Err r) (begin_leave m c i k (Err r) e)) h)
  filled P {w = w} {m = m} (not_finished r e f) h = filled P f (rw (finish_on_is w m (Err r) (finish_leave w m (Err r) e)) h)

-- ---- the finish

-- the sum over what stands in the memory is the frame's
check_is : (memory : List ℕ) (class id : ℕ) (P : List ℕ) → let ck = checksum (summed class id P) in check (length P) (front (head class id (length P) ++ P) memory) ≡ ck.ck_a ∷ ck.ck_b ∷ []
check_is memory class id P =
    let X = head class id (length P) ++ P in
    let part : take (length P + 4) (drop 2 (front X memory)) ≡ summed class id P = rw (add-four, take_at P (drop (length X) memory) (length P) refl) in
    let c = checksum_is (summed class id P) in
    rw (part, c.0, c.1)

sealed : (memory : List ℕ) (class id : ℕ) (P : List ℕ)
    → let m = front (head class id (length P) ++ P) memory in put m (6 + length P) (check (length P) m) ≡ frame class id P ++ drop (length P + 8) memory
sealed memory class id P =
    let X = head class id (length P) ++ P in
    let ck = checksum (summed class id P) in
    let at : 6 + length P ≡ length X = omega arith in
    let end : length (X ++ (ck.ck_a ∷ ck.ck_b ∷ [])) ≡ length P + 8 = omega (arith, length-append P (ck.ck_a ∷ ck.ck_b ∷ [])) in
    rw (check_is memory class id P) (put_front memory X (ck.ck_a ∷ ck.ck_b ∷ []) (6 + length P) at ∙ ap (λ (k : ℕ). frame class id P ++ drop k memory) end)

pub only_the_frame : OnlyTheFrame
only_the_frame memory class id n b pieces w after f e =
    let g = begin_on_is memory class id n (Ok tt) (begin_leave memory class id n (Ok tt) b) in
    let h : Holds memory class id n (joined pieces) w after = filled memory class id n [] f (record { is = rw g; bytes = rw g }) in
    let d = finish_leave w after (Ok tt) e in
    let s = finish_granted w (length after) d in
    let so_far : w.written ≡ length (joined pieces) = ap (λ (x : Writer). x.written) h.is in
    let named : w.len ≡ n = ap (λ (x : Writer). x.len) h.is in
    let count : length (joined pieces) ≡ n = omega (arith, s.0.counts, s.1) in
    (count, rw (finish_on_is w after (Ok tt) d, h.is, h.bytes, ← count) (sealed memory class id (joined pieces)))

-- ---- a run in which every call is granted

module _ (memory : List ℕ) (class id n : ℕ) (fits : Fits (length memory) n) where
  holds_sound : (P : List ℕ) (w : Writer) (m : List ℕ) → Holds memory class id n P w m → length P ≤ n → Sound w (length m)
  holds_sound P w m h l =
      let X = head class id n ++ P in
      let room : length (front X memory) ≡ length memory = length_front X memory (omega (arith, fits.holds)) in
      rw (h.is, h.bytes) (record { rooms = room; fits = fits; counts = l })

  taken : (P : List ℕ) (ps : List (List ℕ)) (o : WriteOut) → o.result.leave ≡ Ok tt → Holds memory class id n P o.result.state o.memory
      → length (P ++ joined ps) ≡ n → AllGranted o ps
  taken P [] o e h c =
      let w = o.result.state in
      let l : length P ≡ n = rw append-nil at c in
      let all : w.len ≤ w.written = rw h.is (omega arith) in
      (e, rw (finish_on_is w o.memory (Ok tt) (grant_finish w (length o.memory) (holds_sound P w o.memory h (omega arith)) all)))
  taken P (p ∷ ps) o e h c =
      let w = o.result.state in
      let m = o.memory in
      let l : length P + length p ≤ n = omega (arith, length-append P p, length-append (P ++ p) (joined ps), ap length (append_assoc P p (joined ps))) in
      let room : w.written + length p ≤ w.len = rw h.is l in
      let g : may_add w (length m) (length p) ≡ Ok tt = grant_add w (length m) (length p) (holds_sound P w m h (omega arith)) room in
      let a = add_on_is w m (Ok tt) p g in
      (e, taken (P ++ p) ps (adding w m p) (rw a) (more memory class id n P p w m h a) (rw append_assoc c))

pub every_cutting_is_taken : EveryCuttingIsTaken
every_cutting_is_taken memory class id pieces short room =
    let n = length (joined pieces) in
    let fits : Fits (length memory) n = record { short = short; holds = room } in
    let g = begin_on_is memory class id n (Ok tt) (grant_begin (length memory) n fits) in
    taken memory class id n fits [] pieces (beginning memory class id n) (rw g) (record { is = rw g; bytes = rw g }) refl

-- such a run fills the memory, and its finish is granted
record Filled (o : WriteOut) (ps : List (List ℕ)) : Type 0 where
  last : Writer
  after : List ℕ
  fills : Fills o.result.state o.memory ps last after
  finishes : (finishing last after).result.leave ≡ Ok tt
  writes : written o ps ≡ (finishing last after).memory

fills_all : (o : WriteOut) (ps : List (List ℕ)) → AllGranted o ps → Filled o ps
fills_all o [] g = record { last = o.result.state; after = o.memory; fills = done; finishes = g.1; writes = refl }
fills_all o (p ∷ ps) g =
    let a = adding o.result.state o.memory p in
    let f = fills_all a ps g.1 in
    record { last = f.last; after = f.after; fills = added (granted ps a g.1) f.fills; finishes = f.finishes; writes = f.writes }
  where
    granted : (qs : List (List ℕ)) (a : WriteOut) → AllGranted a qs → a.result.leave ≡ Ok tt
    granted [] a h = h.0
    granted (q ∷ qs) a h = h.0

pub every_cutting_writes_the_frame : EveryCuttingWritesTheFrame
every_cutting_writes_the_frame memory class id pieces short room =
    let n = length (joined pieces) in
    let g = every_cutting_is_taken memory class id pieces short room in
    let f = fills_all (beginning memory class id n) pieces g in
    let b : (beginning memory class id n).result.leave ≡ Ok tt = rw (begin_on_is memory class id n (Ok tt) (grant_begin (length memory) n (record { short = short; holds = room }))) in
    f.writes ∙ (only_the_frame memory class id n b pieces f.last f.after f.fills f.finishes).1
