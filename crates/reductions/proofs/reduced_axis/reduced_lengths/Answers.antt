use Rattle.std.proofs.Common.{sym, ◌∙◌}
use Rattle.reductions.proofs.Words.{reduced_shape}
use Rattle.reductions.proofs.AxisLaws.{ones}
use Rattle.reductions.proofs.reduced_axis.reduced_lengths.Goals as goal

pub returns-in_ok-ones-in-None : goal.returns-in_ok-ones-in-None
returns-in_ok-ones-in-None c =
    c.in_ok-ones-in-None.ensures.items_if_clones_equal (λ y is. is)
    ∙ ones c.args.lengths.now
    ∙ (λ i. reduced_shape c.args.lengths.now (sym c.in-None.is i) (sym c.if-keep.true i))
