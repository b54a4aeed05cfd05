use Rattle.std.proofs.Common.{map, sym, ap, subst, ◌∙◌}
use Rattle.fancy_index.proofs.Words.{err_from_is_err_and, are_within, parts, index_items, GivesPlan, shown_part, all_named}
use Rattle.fancy_index.proofs.AnswerLaws.{named-view}
use Rattle.fancy_index.proofs.IndexedLaws.{indexed-parts, refused-range}
use Rattle.fancy_index.proofs.planning.plan.Goals as goal

pub returns-in_err-parts : goal.returns-in_err-parts
returns-in_err-parts c =
    let lengths = c.in_ok-left.ensures.axes ∙ c.as_slice-lengths.ensures.value in
    let p = err_from_is_err_and c.from_residual-in_err-parts.result c.from_residual-in_err-parts.ensures.1 in
    rw (p.1, p.2) (refused-range _ _ _ (rw (lengths, c.in_ok-left.ensures.items) at c.in_ok-left.ensures.ok) (rw (lengths, c.in_ok-left.ensures.items) at c.in_err-parts.ensures.err))

pub returns : goal.returns
returns c =
    let shape = c.args.layout.now.shape in
    let items = index_items c.args.items.now in
    let lengths = c.in_ok-left.ensures.axes ∙ c.as_slice-lengths.ensures.value in
    let listed = c.in_ok-left.ensures.items in
    let made = c.in_ok-parts.ensures in
    let named = ap all_named c.as_mut_slice.ensures.value ∙ made.named ∙ (λ i. are_within (lengths i) (listed i)) in
    let view = named-view _ (parts shape items) _ named (λ all. ap (map shown_part) c.as_mut_slice.ensures.value ∙ made.shown (sym (ap all_named c.as_mut_slice.ensures.value) ∙ named ∙ all) ∙ (λ i. parts (lengths i) (listed i))) in
    subst (GivesPlan c.args.layout.now c.plan_of_parts.result) (view ∙ sym (indexed-parts shape items (rw (lengths, listed) at c.in_ok-left.ensures.ok))) c.plan_of_parts.ensures
