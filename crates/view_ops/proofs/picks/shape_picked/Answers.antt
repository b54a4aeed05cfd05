use Rattle.std.proofs.Common.{ap, subst, ◌∙◌}
use Rattle.view_ops.proofs.Words.{shape_of, Gives}
use Rattle.view_ops.proofs.BasicLaws.{shape_of-picked}
use Rattle.view_ops.proofs.picks.shape_picked.Goals as goal

pub returns : goal.returns
returns c =
    let is = ap shape_of (c.as_slice.ensures ∙ c.in_ok-lengths.ensures) ∙ shape_of-picked c.args.shape.now c.args.picks.now c.requires c.as_slice-lengths.ensures.lengths c.as_slice-lengths.ensures.items in
    subst (Gives (λ s. s) c.try_new.result) is c.try_new.ensures
