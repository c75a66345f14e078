-- None but a good frame is handed out as a UBX frame, and a wrong sum is one, with the true pair.
use mathlib.Core.Path.{◌≡◌, sym, ap, subst, ◌∙◌}
use mathlib.Core.List.{List}
use Prim.Native.Nat.{ℕ, ◌+◌, ◌≤◌}
use native.Mathlib.Nat.{zero-add}
use native.Mathlib.Omega.{arith}
use lib.ListN.{length, take, drop, length-drop}
use lib.Seq.{get_or-drop, length-take-le}
use Rattle.window.specs.declared.Mode.{Mode}
use Rattle.claim.specs.declared.Kind.{TheVariants.{Ubx, Rtcm, Sentence}}
use Rattle.claim.specs.declared.Tale.{TheVariants.{WrongSum, WrongParity, NoRoom}}
use Rattle.claim.specs.declared.Verdict.TheVariants.{Tell, Hand}
use Rattle.look.specs.declared.Sight.{Sight, TheVariants.{Say}}
use Rattle.look.specs.Within.{whole}
use Rattle.stream.specs.Scan.{ubx_frame, wrong_sum, Event, body, scan_move, HasScan}
use Rattle.stream.specs.Interface.{GoodFrame, WrongFrame, Bytes}
use Rattle.stream.specs.Frames.{body_of, OnlyGoodFrames, OnlyWrongSums}
use Rattle.stream.proofs.Walks.{SaidBy, by_tale, by_frame, said_by, said_at}
use Rattle.stream.proofs.Modes.{steady_scan}
use Rattle.stream.proofs.Scans.{scan_walks}
use Rattle.stream.proofs.Framed.{body_stands}
use Rattle.stream.proofs.Interface.{scan_says_frame, wrong_at}

-- an answer with a body is a frame's, and one with a pair a wrong sum's
frame_of : (W : List ℕ) (m : Sight) (e : Event) → SaidBy W e m → (class id : ℕ) (b : List ℕ) → e.said ≡ ubx_frame class id b
    → (n : ℕ) × (m ≡ Say (Hand (Ubx class id n))) × (b ≡ body (Ubx class id n) W)
frame_of W _ e (by_tale (WrongSum c i n expect got) h) class id b s = let z : ◌≡◌ {A = ℕ} 0 1 = cc in absurd (omega arith)
frame_of W _ e (by_tale (WrongParity expect got) h) class id b s = let z : ◌≡◌ {A = ℕ} 0 1 = cc in absurd (omega arith)
frame_of W _ e (by_tale (NoRoom drain size) h) class id b s = let z : ◌≡◌ {A = ℕ} 0 1 = cc in absurd (omega arith)
frame_of W _ e (by_frame (Ubx c i n) h) class id b s =
    let ec : c ≡ class = cc in
    let ei : i ≡ id = cc in
    let eb : b ≡ take (n + 2) (drop 6 W) = cc in
    (n, rw (ec, ei), eb)
frame_of W _ e (by_frame (Rtcm n parity) h) class id b s = let z : ◌≡◌ {A = ℕ} 0 1 = cc in absurd (omega arith)
frame_of W _ e (by_frame (Sentence i) h) class id b s = let z : ◌≡◌ {A = ℕ} 0 1 = cc in absurd (omega arith)

wrong_of : (W : List ℕ) (m : Sight) (e : Event) → SaidBy W e m → (class id n expect got : ℕ) → e.said ≡ wrong_sum class id n expect got
    → m ≡ Say (Tell (WrongSum class id n expect got))
wrong_of W _ e (by_tale (WrongSum c i m x y) h) class id n expect got s =
    let ec : c ≡ class = cc in
    let ei : i ≡ id = cc in
    let en : m ≡ n = cc in
    let ex : x ≡ expect = cc in
    let ey : y ≡ got = cc in
    rw (ec, ei, en, ex, ey)
wrong_of W _ e (by_tale (WrongParity x y) h) class id n expect got s = let z : ◌≡◌ {A = ℕ} 0 1 = cc in absurd (omega arith)
wrong_of W _ e (by_tale (NoRoom drain size) h) class id n expect got s = let z : ◌≡◌ {A = ℕ} 0 1 = cc in absurd (omega arith)
wrong_of W _ e (by_frame (Ubx c i m) h) class id n expect got s = let z : ◌≡◌ {A = ℕ} 0 1 = cc in absurd (omega arith)
wrong_of W _ e (by_frame (Rtcm m parity) h) class id n expect got s = let z : ◌≡◌ {A = ℕ} 0 1 = cc in absurd (omega arith)
wrong_of W _ e (by_frame (Sentence i) h) class id n expect got s = let z : ◌≡◌ {A = ℕ} 0 1 = cc in absurd (omega arith)

pub bytes_on : (W : List ℕ) (k : ℕ) → Bytes W → Bytes (drop k W)
bytes_on W k b i = rw get_or-drop (b (k + i))

-- where a UBX frame is handed out, its body is the payload and the checksum of a good frame
good_at : (mode : Mode) (max : ℕ) → HasScan mode → (W : List ℕ) → Bytes W → (class id n : ℕ) → scan_move mode max W ≡ Say (Hand (Ubx class id n))
    → (payload : List ℕ) × GoodFrame max W class id payload × (body (Ubx class id n) W ≡ body_of class id payload)
good_at mode max has W bytes class id n h =
    let within : whole (Ubx class id n) ≤ length W = rw h at ((steady_scan mode max has).goes W (rw h)).1 in
    let payload = take n (drop 6 W) in
    let len : length payload ≡ n = length-take-le n (drop 6 W) (rw length-drop (omega arith)) in
    let g : GoodFrame max W class id payload = (scan_says_frame mode max W bytes class id payload).1 (rw len h, rw len) in
    (payload, g, ap (λ (i : ℕ). take (i + 2) (drop 6 W)) (sym len) ∙ body_stands class id payload _ _ g.rest W g.stands)

pub only_good_frames : OnlyGoodFrames
only_good_frames mode max has stream bytes e a class id b s =
    let (k, at, m) = said_at (scan_move mode max) (scan_walks mode max has stream).0 e a in
    let p : e.at ≡ k = at ∙ zero-add k in
    let W = drop k stream in
    let f = frame_of W (scan_move mode max W) e (said_by (0 + k) W (scan_move mode max W) e m) class id b s in
    let g = good_at mode max has W (bytes_on stream k bytes) class id f.0 f.1 in
    (g.0, subst (λ (i : ℕ). GoodFrame max (drop i stream) class id g.0) (sym p) g.1, f.2 ∙ g.2)

pub only_wrong_sums : OnlyWrongSums
only_wrong_sums mode max has stream bytes e a class id n expect got s =
    let (k, at, m) = said_at (scan_move mode max) (scan_walks mode max has stream).0 e a in
    let p : e.at ≡ k = at ∙ zero-add k in
    let W = drop k stream in
    let (payload, w, len) = wrong_at mode max W (bytes_on stream k bytes) class id n expect got (wrong_of W (scan_move mode max W) e (said_by (0 + k) W (scan_move mode max W) e m) class id n expect got s) in
    (payload, subst (λ (i : ℕ). WrongFrame max (drop i stream) class id payload expect got) (sym p) w, len)
