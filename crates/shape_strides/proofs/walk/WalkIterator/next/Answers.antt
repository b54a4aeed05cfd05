use Rattle.std.proofs.Common.{length, take, sym, ap, ◌∙◌, arith}
use Rattle.shape_strides.proofs.AdvanceLaws.{walk_step_at, walk_over_at}
use Rattle.shape_strides.proofs.walk.WalkIterator.next.Goals as goal

pub returns-then-self-eq0-clause-steps : goal.returns-then-self-eq0-clause-steps
returns-then-self-eq0-clause-steps c =
    let w = c.self.inside in
    let over = sym c.self.view_is ∙ walk_over_at w.lengths.now w.strides.now w.start w.left (omega arith) in
    (over, over)

pub returns-clause-steps : goal.returns-clause-steps
returns-clause-steps c =
    let w = c.self.inside in
    sym c.self.view_is ∙ walk_step_at w.lengths.now w.strides.now w.start (take (length w.lengths.now) w.index) w.offset w.left c.self.invariant.0 c.self.invariant.1 (omega arith)

pub returns-clause-goes : goal.returns-clause-goes
returns-clause-goes c =
    let step = returns-clause-steps c in
    record {
      on = λ _. (tt, tt, omega (arith, ap length step));
      keeps = tt;
      rests = λ _. tt;
    }
