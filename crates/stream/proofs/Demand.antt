-- Demand 3, proved: modes one and two are parsers whose moves more bytes do not change.
use mathlib.Core.Path.{◌≡◌, refl, sym, ap, ◌∙◌}
use mathlib.Core.List.{List, []}
use Prim.Native.Nat.{ℕ}
use native.Mathlib.Omega.{arith}
use lib.ListN.{length}
use borrow.Author.Tests.{le-ltb}
use Rattle.window.specs.declared.Mode.{Mode}
use Rattle.window.specs.Pick.{pick}
use Rattle.look.specs.Rules.{look}
use Rattle.look.specs.Moves.{step_move}
use Rattle.state.specs.Words.{left_len, window, idle}
use Rattle.state.proofs.Window.{Setup}
use Rattle.opening.specs.Operations.{start}
use Rattle.stream.specs.Scan.{scan_move, Scan, scan}
use Rattle.stream.specs.Calls.{hears_all}
use Rattle.stream.specs.Runs.{between, joined}
use Rattle.stream.specs.Demand.{Roomy, fresh, holds, TailFitsTheCarry, EveryCuttingGivesTheScan}
use Rattle.stream.proofs.Walks.{nothing_ends, scans}
use Rattle.stream.proofs.Steady.{fit_sight, sight_still}
use Rattle.stream.proofs.Modes.{steady_scan, scan_noise, has_scan, look_fit}
use Rattle.stream.proofs.Scans.{scan_walks}
use Rattle.stream.proofs.Steps.{Parses}
use Rattle.stream.proofs.Cuts.{Inv, ran}
use Rattle.stream.proofs.NoRoom.{scan_never}

module _ (mode : Mode) (max cap : ℕ) (roomy : Roomy mode max cap) where
  abbrev setup : Setup
  setup = record { mode = mode; max = max; cap = cap }

  same_move : (u : ℕ) (W : List ℕ) → step_move mode max cap u W ≡ scan_move mode max W
  unfolding step_move scan_move
  same_move u W = fit_sight cap u W (look mode max W) (look_fit max cap mode roomy W)

  pub parses : Parses setup (scan_move mode max)
  unfolding scan_move
  parses = record {
    steady = steady_scan mode max (has_scan max cap mode roomy);
    same = λ s carry chunk su.
        ap (λ (x : Setup). step_move x.mode x.max x.cap (left_len s) (window s carry chunk)) su ∙ same_move (left_len s) (window s carry chunk);
    noise = scan_noise mode max;
    still = λ W. sight_still cap W (look mode max W) (look_fit max cap mode roomy W);
  }

pub every_cutting_gives_the_scan : EveryCuttingGivesTheScan
unfolding scan
every_cutting_gives_the_scan mode max carry roomy h calls chunks f =
    let p = fresh mode max carry in
    let u = setup mode max (length carry) roomy in
    let ps = parses mode max (length carry) roomy in
    let e : p.state ≡ idle mode max (length carry) 0 = unfold start pick in rw (le-ltb 16384 (length carry) h) in
    let i : Inv u (scan_move mode max) ps between p = rw e (refl, nothing_ends (scan_move mode max) ps.steady) in
    let r = ran u (scan_move mode max) ps f i in
    let z : holds p ≡ [] = rw e in
    let is = sym (scans (scan_move mode max) ps.steady (length (joined chunks)) (omega arith) (rw z at r.0) r.1) in
    let a : hears_all calls p ≡ (scan mode max (joined chunks)).answers = ap (λ (x : Scan). x.answers) is in
    record {
      answers = a;
      no_room = rw a (scan_never mode max (joined chunks));
      lost = r.2;
      tail = ap (λ (x : Scan). x.tail) is;
      tail_at = ap (λ (x : Scan). x.tail_at) is;
    }

-- what ends the scan fits the carry
pub tail_fits_the_carry : TailFitsTheCarry
tail_fits_the_carry mode max cap roomy stream =
    ((parses mode max cap roomy).still (scan mode max stream).tail (scan_walks mode max (has_scan max cap mode roomy) stream).1).1
