use Rattle.std.proofs.Common.{◌++◌, ◌-◌, ◌∷◌, [], ap, sym, ◌∙◌, arith}
use Rattle.view_ops.proofs.Words.{map-range_with_len_more}
use Rattle.view_ops.proofs.axis_lists.reversed_axes.Goals as goal

pub loop-k-preserved : goal.loop-k-preserved
loop-k-preserved c =
    c.in_ok-push.ensures.ok ∙ ap (λ s. s ++ (c.args.rank - 1 - c.loop-k.k) ∷ []) c.loop-k.invariant ∙ sym (map-range_with_len_more (λ k. c.args.rank - 1 - k) 0 c.loop-k.k c.loop-k.k (omega arith))
