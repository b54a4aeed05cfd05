use Rattle.std.proofs.Common.{sym, ap, ◌∙◌, nat_eq, not}
use Rattle.reductions.proofs.Words.{beq, is_true_bits}
use Rattle.reductions.proofs.DecidedLaws.{none_better}
use Rattle.reductions.proofs.folds.is_last.Goals as goal

pub returns : goal.returns
returns g c last order bytes offset =
    let greatest = not (nat_eq g.row.GREATEST 0) in
    let z = g.S.Number.value c.args.best in
    let bools = c.are_bools.ensures c.if-not-are_bools.false order in
    let is = ap (λ b. beq b greatest) (sym (is_true_bits c.bits.result z c.bits.ensures.lowest)) ∙ last in
    none_better greatest (g.S.Number.scalar order) bytes offset z bools is (g.met.S.Number.is_truth order c.args.best bools)
