-- The bench set, the porter's errors, and frames with parity: one claim over each table, computed.
use mathlib.Core.Path.{◌≡◌, refl}
use mathlib.Core.Bool.{true}
use Rattle.sum.specs.Sum.{sum_on}
use Rattle.parity.specs.Parity.{bits, bits_of, reduce, divide, parity_of}
use Rattle.window.specs.Pick.{pick}
use Rattle.window.specs.Sync.{first}
use Rattle.window.specs.EndMark.{end_mark}
use Rattle.look.specs.Rules.{look, look_ubx, look_rtcm, look_nmea}
use Rattle.look.specs.Moves.{judge, step_move}
use Rattle.state.specs.Refusals.{is_bad, may_open, may_use}
use Rattle.taking.specs.Take.{taking}
use Rattle.opening.specs.Operations.{start, opening, closing}
use Rattle.framer.specs.Step.{step}
use Rattle.framer.specs.Bench.{every, bench_set, porters_errors, parity_rows}

pub bench : every bench_set ≡ true
unfolding pick sum_on first end_mark look look_ubx look_rtcm look_nmea judge is_bad may_open may_use start opening closing step step_move taking
bench = refl

pub porter : every porters_errors ≡ true
unfolding pick sum_on first end_mark look look_ubx look_rtcm look_nmea judge is_bad may_open may_use start opening closing step step_move taking
porter = refl

pub parity : every parity_rows ≡ true
unfolding pick sum_on first end_mark look look_ubx look_rtcm look_nmea judge is_bad may_open may_use start opening closing step step_move taking bits bits_of reduce divide parity_of
parity = refl
