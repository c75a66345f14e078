-- No good frame is lost in modes one and two; and what that says in mode one of bytes before a good frame.
use mathlib.Core.Path.{◌≡◌, refl, sym}
use mathlib.Core.Bool.{Bool, true, false, true≢false}
use mathlib.Core.List.Memᴰ.{not-nil as among-nil}
use mathlib.Core.List.{List, [], ◌∷◌, ◌++◌, Memᴰ as Among}
use Prim.Native.Nat.{ℕ, ◌≤◌, ◌<◌}
use native.Mathlib.Nat.{zero-add}
use native.Mathlib.Omega.{arith}
use lib.ListN.{length, get_or, drop}
use lib.Seq.{drop-cons, drop_at, drop-append-le}
use lib.Dec.{eqb, leb}
use borrow.Author.Tests.{leb-true, leb-false, ne_eqb}
use Rattle.window.specs.declared.Mode.{Mode, TheVariants.{One}}
use Rattle.window.specs.Pick.{pick}
use Rattle.window.specs.Sync.{is_more, is_sync}
use Rattle.look.specs.declared.Why.{Why, TheVariants.{NoSync, NotPair}}
use Rattle.look.specs.declared.Sight.TheVariants.{Pass}
use Rattle.look.specs.Rules.{look}
use Rattle.look.proofs.Rules.{ubx_other}
use Rattle.stream.specs.Scan.{Event, scan_move, scan, HasScan}
use Rattle.stream.specs.Interface.{frame, GoodFrame}
use Rattle.stream.specs.Frames.{hand_out, Kept, handed, inside, unfinished, NoGoodFrameIsLost, OneStrayByte, AnyBytesWithoutB5}
use Rattle.stream.proofs.Walks.{ends, says, said_at}
use Rattle.stream.proofs.Modes.{steady_scan, scan_noise}
use Rattle.stream.proofs.Scans.{scan_walks, scan_tail}
use Rattle.stream.proofs.Framed.{body_stands}
use Rattle.stream.proofs.Interface.{good_hands}
use Rattle.stream.proofs.Lost.{kept}
use Rattle.stream.proofs.Jumps.{scan_hops}

-- a good frame's answer, and its first byte
good_said : (mode : Mode) (max class id : ℕ) (payload : List ℕ) (p : ℕ) (W : List ℕ) → GoodFrame max W class id payload
    → says p W (scan_move mode max W) ≡ hand_out p class id payload ∷ []
good_said mode max class id payload p W g = rw (good_hands mode max W class id payload g, body_stands class id payload _ _ g.rest W g.stands)

front_byte : (max : ℕ) (W : List ℕ) (class id : ℕ) (payload : List ℕ) → GoodFrame max W class id payload → get_or W 0 0 ≡ 0x62 → ⊥
front_byte max W class id payload g e = let b : get_or W 0 0 ≡ 0xB5 = rw g.stands in omega arith

pub no_good_frame_is_lost : NoGoodFrameIsLost
no_good_frame_is_lost mode max has stream p class id payload g =
    rw zero-add at (kept (scan_move mode max) (steady_scan mode max has) (λ W. GoodFrame max W class id payload) (λ i. hand_out i class id payload)
    (good_said mode max class id payload) (λ W. front_byte max W class id payload) (scan_hops mode max) (scan_walks mode max has stream).0 p g)

-- ---- where every byte before it is passed in silence, a good frame is handed out

module _ (mode : Mode) (max : ℕ) (has : HasScan mode) (stream : List ℕ) (p class id : ℕ) (payload : List ℕ) (g : GoodFrame max (drop p stream) class id payload)
    (silent : (k : ℕ) → k < p → (y : Why) × (scan_move mode max (drop k stream) ≡ Pass y)) where
  not_inside : (f : Event) → Among f (scan mode max stream).answers → f.at < p → ⊥
  not_inside f a b =
      let (k, h, s) = said_at (scan_move mode max) (scan_walks mode max has stream).0 f a in
      let q = silent k (omega arith) in
      among-nil (rw q.1 at s)

  not_tail : (scan mode max stream).tail_at ≤ p → ⊥
  not_tail h = go (leb p (scan mode max stream).tail_at) refl
    where
      last : ends (scan_move mode max (drop (scan mode max stream).tail_at stream)) ≡ true
      last = rw (scan_tail mode max has stream).0 at (scan_walks mode max has stream).1

      go : (b : Bool) → leb p (scan mode max stream).tail_at ≡ b → ⊥
      go true t =
          let at : (scan mode max stream).tail_at ≡ p = omega (arith, leb-true p (scan mode max stream).tail_at t) in
          true≢false (sym (rw (at, good_hands mode max (drop p stream) class id payload g) at last))
      go false t = true≢false (sym (rw (silent (scan mode max stream).tail_at (leb-false _ _ t)).1 at last))

  pub heard_out : Among (hand_out p class id payload) (scan mode max stream).answers
  heard_out = go (no_good_frame_is_lost mode max has stream p class id payload g)
    where
      go : Kept (scan mode max stream).answers (scan mode max stream).tail_at p (hand_out p class id payload) → Among (hand_out p class id payload) (scan mode max stream).answers
      go (handed a) = a
      go (inside f a b i) = absurd (not_inside f a b)
      go (unfinished t) = absurd (not_tail t)

-- ---- a stray byte before B5 is passed, unless it is another sync byte of the mode; in mode one there is none

stray_passed : (mode : Mode) (max stray : ℕ) (bs : List ℕ) → is_more mode stray ≡ false → (y : Why) × (scan_move mode max (stray ∷ 0xB5 ∷ bs) ≡ Pass y)
unfolding scan_move look pick
stray_passed mode max stray bs more = go (eqb stray 0xB5) refl
  where
    go : (b : Bool) → eqb stray 0xB5 ≡ b → (y : Why) × (scan_move mode max (stray ∷ 0xB5 ∷ bs) ≡ Pass y)
    go true e = (NotPair, rw (e, ubx_other max (stray ∷ 0xB5 ∷ bs) (omega arith) (λ h. omega (arith, h))))
    go false e = (NoSync, rw (e, more))

pub one_stray_byte : OneStrayByte
one_stray_byte parity max stray class id payload rest h =
    heard_out (One parity) max tt (stray ∷ (frame class id payload ++ rest)) 1 class id payload (record { fits = h; rest = rest; stands = refl })
    (λ k l. let z : k ≡ 0 = omega arith in rw z (stray_passed (One parity) max stray _ refl))

pub any_bytes_without_b5 : AnyBytesWithoutB5
any_bytes_without_b5 parity max noise none class id payload rest h =
    let F = frame class id payload ++ rest in
    heard_out (One parity) max tt (noise ++ F) (length noise) class id payload (record { fits = h; rest = rest; stands = drop_at noise F (length noise) refl })
    (λ k l.
    let b : is_sync (One parity) (get_or noise k 0) ≡ false = rw (ne_eqb (get_or noise k 0) 0xB5 (none k)) in
    (NoSync, rw (drop-append-le k noise F (omega arith), drop-cons noise k 0 l) (scan_noise (One parity) max (get_or noise k 0) _ b)))
