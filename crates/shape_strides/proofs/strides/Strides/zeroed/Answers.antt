use Rattle.std.proofs.Common.{pos, length, ap, ◌∙◌, arith}
use Rattle.shape_strides.proofs.Words.{zeros_are}
use Rattle.shape_strides.proofs.ZeroLaws.{refilled}
use Rattle.shape_strides.proofs.strides.Strides.zeroed.Goals as goal

pub returns : goal.returns
returns c =
    let same = ap length c.strides.view_is in
    refilled _ c.strides.inside.steps.items c.loop-step.step-items (omega (arith, c.loop-step.invariant.size))
    ∙ zeros_are c.loop-step.step-items c.args.self (pos 0) c.loop-step.invariant.size (λ k below. c.loop-step.invariant.zeros k (omega arith))
