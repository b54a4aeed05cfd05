use Rattle.std.proofs.Common.{arith, refl, ◌∙◌}
use Rattle.bench_engine.proofs.Words.{err_from_is_err_and}
use Rattle.bench_engine.proofs.Counts.{rises_by-zero, rises_by-then}
use Rattle.bench_engine.proofs.Whole.{answers-script, ended-by, reading-new, whole-lines}
use Rattle.bench_engine.proofs.runner.run_within.Goals as goal

pub returns-in_err-take_turn-clause-comes_to : goal.returns-in_err-take_turn-clause-comes_to
returns-in_err-take_turn-clause-comes_to g c =
    let p = err_from_is_err_and c.from_residual-in_err-take_turn.result c.from_residual-in_err-take_turn.ensures.1 in
    rw (p.1, p.2) (ended-by _ _ _ _ _ (c.in_err-take_turn.ensures.turned _ _ c.loop-turn.invariant.fed))

pub returns-then-branch-clause-comes_to : goal.returns-then-branch-clause-comes_to
returns-then-branch-clause-comes_to g c =
    answers-script _ _ _ c.take_turn.new.session c.into_summary.result (rw c.if-branch.true at (c.in_ok-take_turn.ensures.turned _ _ c.loop-turn.invariant.fed))
    c.into_summary.ensures.bench c.into_summary.ensures.accepted c.into_summary.ensures.refused

pub returns-clause-comes_to : goal.returns-clause-comes_to
returns-clause-comes_to g c = whole-lines _ _ _ _ c.loop-turn.invariant.fed

pub loop-turn-init : goal.loop-turn-init
loop-turn-init g c = record {
  few = omega (arith, c.in_ok-session.ensures.accepted, c.in_ok-session.ensures.refused);
  chunk = c.in_ok-chunk.ensures.len;
  counted = rises_by-zero _;
  well = refl;
  fed = reading-new _ _ c.in_ok-session.session c.in_ok-session.ensures;
}

pub loop-turn-preserved : goal.loop-turn-preserved
loop-turn-preserved g c = record {
  few = omega (arith, c.take_turn.ensures.few, c.as_mut_slice.ensures.len);
  chunk = c.loop-turn.invariant.chunk;
  counted = rises_by-then _ _ _ c.loop-turn.turn 1 _ (omega arith) c.loop-turn.invariant.counted c.in_ok-take_turn.ensures.one;
  well = c.in_ok-take_turn.ensures.well ∙ c.loop-turn.invariant.well;
  fed = rw c.if-branch.false at (c.in_ok-take_turn.ensures.turned _ _ c.loop-turn.invariant.fed);
}

pub take_turn-requires-clause-may : goal.take_turn-requires-clause-may
take_turn-requires-clause-may g c = c.requires.in_time c.loop-turn.source _ (g.N.NpyStore.shelf c.loop-turn.store) c.loop-turn.invariant.well (whole-lines _ _ _ _ c.loop-turn.invariant.fed)
