-- 01's scan of modes one and two as a walk, and its unfinished tail.
use mathlib.Core.Path.{◌≡◌}
use mathlib.Core.Bool.{true}
use mathlib.Core.List.{List}
use Prim.Native.Nat.{ℕ, ◌+◌, ◌≤◌}
use native.Mathlib.Omega.{arith}
use lib.ListN.{length, drop}
use Rattle.window.specs.declared.Mode.{Mode}
use Rattle.stream.specs.Scan.{scan_move, scan_at, scan_from, scan, HasScan}
use Rattle.stream.proofs.Walks.{ends, Walk, scanned, scan_on, tail_is}
use Rattle.stream.proofs.Modes.{steady_scan}

-- the scan from position p: one turn, and the scan from where that goes on
pub scan_turns : (mode : Mode) (max : ℕ) → HasScan mode → (p : ℕ) (W : List ℕ)
    → scan_from (scan_move mode max) p W ≡ scan_at p W (scan_move mode max W) (λ k. scan_from (scan_move mode max) (p + k) (drop k W))
scan_turns mode max has = scan_on (scan_move mode max) (steady_scan mode max has)

module _ (mode : Mode) (max : ℕ) (has : HasScan mode) (stream : List ℕ) where
  pub scan_walks : Walk (scan_move mode max) 0 stream (scan mode max stream).answers (scan mode max stream).tail_at (scan mode max stream).tail
      × (ends (scan_move mode max (scan mode max stream).tail) ≡ true)
  unfolding scan
  scan_walks = scanned (scan_move mode max) (steady_scan mode max has) (length stream) 0 stream (omega arith)

  -- the tail is the stream from its position on
  pub scan_tail : ((scan mode max stream).tail ≡ drop (scan mode max stream).tail_at stream) × ((scan mode max stream).tail_at ≤ length stream)
  unfolding scan
  scan_tail = tail_is (scan_move mode max) (steady_scan mode max has) stream
