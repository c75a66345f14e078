-- Mode two with parity: no good RTCM frame is lost, none but a good one is handed out, a wrong parity is one, and stray bytes take no
-- good frame.
use mathlib.Core.Path.{◌≡◌, refl, sym, ap, subst, ◌∙◌}
use mathlib.Core.Logic.{inl, inr}
use mathlib.Core.Bool.{Bool, true, false, true≢false}
use mathlib.Core.List.Memᴰ.{append_right as among-right}
use mathlib.Core.List.Memᴰ.{head as among-head}
use mathlib.Core.List.{List, [], ◌∷◌, ◌++◌, Memᴰ as Among}
use Prim.Native.Nat.{ℕ, ◌+◌, ◌/◌, ◌≤◌, ◌<◌}
use native.Mathlib.Nat.{zero-add}
use native.Mathlib.Omega.{arith}
use lib.ListN.{length, get_or, take, drop}
use Rattle.window.specs.declared.Mode.TheVariants.{Two}
use Rattle.claim.specs.declared.Kind.TheVariants.{Rtcm}
use Rattle.claim.specs.declared.Verdict.TheVariants.{Hand}
use Rattle.look.specs.declared.Sight.TheVariants.{Say}
use Rattle.stream.specs.Scan.{Said, ubx_frame, rtcm_frame, sentence, wrong_sum, wrong_parity, no_room, Event, body, scan_move, scan}
use Rattle.stream.specs.Interface.{frame, GoodFrame, Bytes}
use Rattle.stream.specs.Frames.{span, hand_out, Kept, handed as kept-handed, inside as kept-inside, unfinished as kept-unfinished}
use Rattle.stream.specs.Rtcm.{rtcm, GoodRtcm, WrongRtcm}
use Rattle.stream.specs.RtcmFrames.{hand_out_rtcm, NoGoodRtcmIsLost, OnlyGoodRtcm, OnlyWrongParities, GoodOut, KeptFrom, handed, inside_good, unfinished, StrayBytesTakeNoUbxFrame, StrayBytesTakeNoRtcmFrame, StrayD3Waits}
use Rattle.stream.proofs.Walks.{says, said_by, said_at}
use Rattle.stream.proofs.Modes.{steady_scan}
use Rattle.stream.proofs.Scans.{scan_turns, scan_walks}
use Rattle.stream.proofs.Lost.{kept}
use Rattle.stream.proofs.Jumps.{scan_hops}
use Rattle.stream.proofs.Interface.{good_hands as good-hands-ubx}
use Rattle.stream.proofs.Framed.{body_stands}
use Rattle.stream.proofs.NoneLost.{no_good_frame_is_lost}
use Rattle.stream.proofs.OnlyGood.{bytes_on, only_good_frames}
use Rattle.stream.proofs.Headed.{Headed, scan_tells, rtcm_of, sentence_of, wrong_parity_of}
use Rattle.stream.proofs.Transport.{good_body, good_hands, length_of, stands_good, stands_wrong}
use Rattle.stream.proofs.WeakSpot.{d3_waits_parity, d3_wrong}

-- ---- none that is good is lost

rtcm_said : (max reserved : ℕ) (message : List ℕ) (p : ℕ) (W : List ℕ) → GoodRtcm W reserved message → says p W (scan_move (Two true) max W) ≡ hand_out_rtcm p reserved message ∷ []
rtcm_said max reserved message p W g =
    rw (good_hands reserved message g.rest W g.fits g.stands max, good_body reserved message g.rest W g.fits g.stands)

rtcm_front : (reserved : ℕ) (message W : List ℕ) → GoodRtcm W reserved message → get_or W 0 0 ≡ 0x62 → ⊥
rtcm_front reserved message W g e = let b : get_or W 0 0 ≡ 0xD3 = rw g.stands in omega arith

pub no_good_rtcm_is_lost : NoGoodRtcmIsLost
no_good_rtcm_is_lost max stream p reserved message g =
    rw zero-add at (kept (scan_move (Two true) max) (steady_scan (Two true) max tt) (λ W. GoodRtcm W reserved message) (λ i. hand_out_rtcm i reserved message)
    (rtcm_said max reserved message) (rtcm_front reserved message) (scan_hops (Two true) max) (scan_walks (Two true) max tt stream).0 p g)

-- ---- none but a good one is handed out

good_at : (max : ℕ) (W : List ℕ) → Bytes W → (n : ℕ) (parity : Bool) → scan_move (Two true) max W ≡ Say (Hand (Rtcm n parity))
    → (reserved : ℕ) × (message : List ℕ) × GoodRtcm W reserved message × (body (Rtcm n parity) W ≡ rtcm reserved message)
good_at max W bytes n false e = let h : Headed (Two true) W n false = (rw e at (scan_tells (Two true) max W)).0 in absurd (true≢false (sym h.setting))
good_at max W bytes n true e =
    let t = rw e at (scan_tells (Two true) max W) in
    let w : 0 + (n + 6) ≤ length W = rw e at ((steady_scan (Two true) max tt).goes W (rw e)).1 in
    let h : Headed (Two true) W n true = t.0 in
    let g = stands_good W bytes n h.front h.counts (omega arith) t.1 in
    let same = length_of W bytes n h.front h.counts (omega arith) in
    (get_or W 1 0 / 4, take n (drop 3 W), g, ap (λ (i : ℕ). body (Rtcm i true) W) (sym same) ∙ good_body (get_or W 1 0 / 4) (take n (drop 3 W)) g.rest W g.fits g.stands)

pub only_good_rtcm : OnlyGoodRtcm
only_good_rtcm max stream bytes e a b s =
    let (k, at, m) = said_at (scan_move (Two true) max) (scan_walks (Two true) max tt stream).0 e a in
    let p : e.at ≡ k = at ∙ zero-add k in
    let W = drop k stream in
    let f = rtcm_of W (scan_move (Two true) max W) e (said_by (0 + k) W (scan_move (Two true) max W) e m) b s in
    let g = good_at max W (bytes_on stream k bytes) f.0 f.1 f.2 in
    (g.0, g.1, subst (λ (i : ℕ). GoodRtcm (drop i stream) g.0 g.1) (sym p) g.2, f.3 ∙ g.3)

pub only_wrong_parities : OnlyWrongParities
only_wrong_parities max stream bytes e a expect got s =
    let (k, at, m) = said_at (scan_move (Two true) max) (scan_walks (Two true) max tt stream).0 e a in
    let p : e.at ≡ k = at ∙ zero-add k in
    let W = drop k stream in
    let (n, h, w, ex, eg, ne) = rw (wrong_parity_of W (scan_move (Two true) max W) e (said_by (0 + k) W (scan_move (Two true) max W) e m) expect got s) at (scan_tells (Two true) max W) in
    let g = stands_wrong W (bytes_on stream k bytes) n h.front h.counts w expect got ex eg ne in
    (get_or W 1 0 / 4, take n (drop 3 W), subst (λ (i : ℕ). WrongRtcm (drop i stream) (get_or W 1 0 / 4) (take n (drop 3 W)) expect got) (sym p) g)

-- ---- stray bytes take no good frame

module _ (max : ℕ) (stream : List ℕ) (bytes : Bytes stream) where
  no_sentence : (f : Event) → Among f (scan (Two true) max stream).answers → (b : List ℕ) → f.said ≡ sentence b → ⊥
  no_sentence f a b s =
      let (k, at, m) = said_at (scan_move (Two true) max) (scan_walks (Two true) max tt stream).0 f a in
      let i = sentence_of (drop k stream) (scan_move (Two true) max (drop k stream)) f (said_by (0 + k) (drop k stream) (scan_move (Two true) max (drop k stream)) f m) b s in
      (rw i.1 at (scan_tells (Two true) max (drop k stream))) tt

  -- what takes up bytes is a good frame
  takes_good : (f : Event) → Among f (scan (Two true) max stream).answers → (p : ℕ) → f.at < p → p < f.at + span f.said → GoodOut max stream f
  takes_good f a p l = go f.said refl
    where
      go : (said : Said) → f.said ≡ said → p < f.at + span said → GoodOut max stream f
      go (ubx_frame class id b) s h =
          let g = only_good_frames (Two true) max tt stream bytes f a class id b s in
          inl (class, id, g.0, g.1, ap (λ (x : Said). record { at = f.at; said = x }) (s ∙ ap (ubx_frame class id) g.2))
      go (rtcm_frame b) s h =
          let g = only_good_rtcm max stream bytes f a b s in
          inr (g.0, g.1, g.2, ap (λ (x : Said). record { at = f.at; said = x }) (s ∙ ap rtcm_frame g.3))
      go (sentence b) s h = absurd (no_sentence f a b s)
      go (wrong_sum class id n expect got) s h = absurd (omega arith)
      go (wrong_parity expect got) s h = absurd (omega arith)
      go (no_room size) s h = absurd (omega arith)

  kept_from : (p : ℕ) (e : Event) → Kept (scan (Two true) max stream).answers (scan (Two true) max stream).tail_at p e
      → KeptFrom max stream (scan (Two true) max stream).answers (scan (Two true) max stream).tail_at p e
  kept_from p e (kept-handed a) = handed a
  kept_from p e (kept-inside f a b i) = inside_good f a b i (takes_good f a p b i)
  kept_from p e (kept-unfinished t) = unfinished t

pub stray_bytes_take_no_ubx_frame : StrayBytesTakeNoUbxFrame
stray_bytes_take_no_ubx_frame max stream bytes p class id payload g =
    kept_from max stream bytes p (hand_out p class id payload) (no_good_frame_is_lost (Two true) max tt stream p class id payload g)

pub stray_bytes_take_no_rtcm_frame : StrayBytesTakeNoRtcmFrame
stray_bytes_take_no_rtcm_frame max stream bytes p reserved message g =
    kept_from max stream bytes p (hand_out_rtcm p reserved message) (no_good_rtcm_is_lost max stream p reserved message g)

-- a D3 just before it: the scan waits at 0, or tells of a wrong parity there and goes on at 1
pub stray_d3_waits : StrayD3Waits
unfolding scan
stray_d3_waits max class id payload rest fits =
    let F : List ℕ = frame class id payload ++ rest in
    let W : List ℕ = 0xD3 ∷ F in
    let on = scan_turns (Two true) max tt in
    let good : GoodFrame max F class id payload = record { fits = fits; rest = rest; stands = refl } in (
      λ short. on 0 W ∙ rw (d3_waits_parity max (drop 3 W) (omega arith)),
      λ long wrong. rw (on 0 W, d3_wrong max (drop 3 W) (omega arith) wrong, on (0 + 1) F, good-hands-ubx (Two true) max F class id payload good, body_stands class id payload _ _ rest F refl) (among-right (_ ∷ []) (among-head refl)),
    )
