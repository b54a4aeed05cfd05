use Rattle.std.proofs.Common.{◌≤◌, inr, sym, ap, ◌∙◌, arith, map, length, subst}
use Rattle.view_ops.proofs.Words.{axes_taken, are_on_axes, picks, picked_view, pick_shown, GivesView}
use Rattle.view_ops.proofs.BasicLaws.{basic-many, basic-no_step, basic-out, basic-picks}
use Rattle.view_ops.proofs.basic_index.basic.Goals as goal

pub returns-then-taken-lengths-clause-view : goal.returns-then-taken-lengths-clause-view
returns-then-taken-lengths-clause-view g c =
    inr (basic-many c.args.layout.now.shape c.args.items.now (omega (arith, ap length c.as_slice-lengths.ensures.value, c.taken.ensures, c.if-taken-lengths.true)))

pub returns-then-not-have_steps-clause-view : goal.returns-then-not-have_steps-clause-view
returns-then-not-have_steps-clause-view g c =
    inr (basic-no_step c.args.layout.now.shape c.args.items.now (omega (arith, ap length c.as_slice-lengths.ensures.value, c.taken.ensures, c.if-taken-lengths.false)) (sym c.if-not-have_steps.ensures))

pub returns-then-not-are_in_range-clause-view : goal.returns-then-not-are_in_range-clause-view
returns-then-not-are_in_range-clause-view g c =
    inr (basic-out c.args.layout.now.shape c.args.items.now (omega (arith, ap length c.as_slice-lengths.ensures.value, c.taken.ensures, c.if-taken-lengths.false)) (sym c.if-not-have_steps.ensures) (ap (λ l. are_on_axes l c.args.items.now) (sym c.as_slice-lengths.ensures.value) ∙ sym c.if-not-are_in_range.ensures))

pub returns-clause-view : goal.returns-clause-view
returns-clause-view g c =
    let few : axes_taken c.args.items.now ≤ length c.args.layout.now.shape = omega (arith, ap length c.as_slice-lengths.ensures.value, c.taken.ensures, c.if-taken-lengths.false) in
    let same = basic-picks c.args.layout.now.shape c.args.items.now few (sym c.if-not-have_steps.ensures) (ap (λ l. are_on_axes l c.args.items.now) (sym c.as_slice-lengths.ensures.value) ∙ sym c.if-not-are_in_range.ensures) in
    let shown_is = ap (map pick_shown) c.as_slice.ensures ∙ c.in_ok-set_picks.ensures.shown ∙ ap (λ l. picks l c.args.items.now) c.as_slice-lengths.ensures.value in
    subst (λ there. GivesView c.args.layout.now c.with_picks.result there) (ap picked_view shown_is ∙ sym same) c.with_picks.ensures.view
