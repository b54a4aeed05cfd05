use Rattle.std.proofs.Common.{arith, rules, FitsSigned}
use Rattle.literal_items.proofs.Words.{w128}
use Rattle.literal_items.proofs.Stepping.{number_far}
use Rattle.literal_items.proofs.range.number_at.Goals as goal

pub returns : goal.returns
returns c =
    let start_fits : FitsSigned w128 c.args.start.now = search rules in
    let step_fits : FitsSigned w128 c.args.step.now = search rules in
    number_far c.args.start.now c.args.step.now c.args.k (omega arith) start_fits step_fits c.requires
