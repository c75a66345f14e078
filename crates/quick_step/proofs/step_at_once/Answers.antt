-- `quick_step::step_at_once` meets its contract: what stands before the next sync byte is passed.
use mathlib.Core.Path.{◌≡◌, sym, ap, ◌∙◌}
use mathlib.Core.Bool.{true, false}
use mathlib.Core.Logic.{◌⊎◌}
use lib.ListN.{get_or}
use Rattle.window.specs.Sync.{has_parity, is_sync}
use Rattle.state.specs.declared.State.{State}
use Rattle.state.specs.Words.{window, width}
use Rattle.framer.specs.Step.{step_from}
use Rattle.quick_step.proofs.Noise.{noise_ready, noise_front, noise_passed}
use Rattle.quick_step.proofs.step_at_once.Goals as goal

pub invariant_of-p : goal.invariant_of-p
invariant_of-p c = let z = c.args.p.now in
    record { ready = rw c.past_noise-p.ensures (noise_ready z.state z.carry.now z.chunk.now z.ready) }

pub at_front-done-requires : goal.at_front-done-requires
at_front-done-requires c = let z = c.args.p.now in let there = c.past_noise-p in
    let plain : has_parity there.result.mode ≡ false = rw there.ensures c.requires.mode_value in
    let front : (width there.result ≡ 0) ⊎ (is_sync there.result.mode (get_or (window there.result z.carry.now z.chunk.now) 0 0) ≡ true) =
    rw there.ensures (noise_front z.state z.carry.now z.chunk.now z.ready) in
    record { mode_value = plain; fact = front }

pub returns-clause-quickly : goal.returns-clause-quickly
returns-clause-quickly c = let z = c.args.p.now in
    let there = sym c.past_noise-p.ensures in
    rw (noise_passed z.state z.carry.now z.chunk.now z.ready ∙ ap (λ (s : State). step_from s z.carry.now z.chunk.now) there) c.at_front-done.ensures.quickly
