use Rattle.std.proofs.Common.{inr, sym, ap, subst, ◌∙◌, ◌&&◌}
use Rattle.reductions.proofs.Words.{Gives, shape_of, reduced_shape, has_empty_list, needs_items}
use Rattle.reductions.proofs.OutcomeLaws.{after_empty, after_some}
use Rattle.reductions.proofs.reduced_axis.shape_after.Goals as goal

pub returns-then-lacks_items : goal.returns-then-lacks_items
returns-then-lacks_items c =
    let shape = c.args.shape.now in
    let is = c.as_slice-2.ensures ∙ c.in_ok-lengths.ensures ∙ ap (λ s. reduced_shape s c.args.axis c.args.keep) c.as_slice.ensures.value in
    inr (after_empty c.args.reduction shape c.args.axis c.args.keep (ap (λ lengths. needs_items c.args.reduction && has_empty_list shape c.args.axis lengths) (sym is) ∙ sym c.lacks_items.ensures ∙ c.if-lacks_items.true))

pub returns : goal.returns
returns c =
    let shape = c.args.shape.now in
    let is = c.as_slice-2.ensures ∙ c.in_ok-lengths.ensures ∙ ap (λ s. reduced_shape s c.args.axis c.args.keep) c.as_slice.ensures.value in
    let there = after_some c.args.reduction shape c.args.axis c.args.keep (ap (λ lengths. needs_items c.args.reduction && has_empty_list shape c.args.axis lengths) (sym is) ∙ sym c.lacks_items.ensures ∙ c.if-lacks_items.false) in
    subst (λ answer. Gives (λ s. s) c.try_new.result answer) (ap shape_of (c.as_slice-3.ensures ∙ sym c.as_slice-2.ensures ∙ is) ∙ sym there) c.try_new.ensures
