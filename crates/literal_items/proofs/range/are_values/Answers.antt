use Rattle.std.proofs.Common.{◌-◌, sym, ap, subst, ◌∙◌, arith, FitsSigned}
use Rattle.literal_items.proofs.Words.{w128, to_z-of_z, is_value}
use Rattle.literal_items.proofs.Ends.{first_fits, last_decides, first_fails}
use Rattle.literal_items.proofs.range.are_values.Goals as goal

pub returns-then-is_value : goal.returns-then-is_value
returns-then-is_value c =
    let scalar = c.args.scalar.now in let last = c.number_at.result in
    let fits : FitsSigned w128 last = subst (FitsSigned w128) (sym c.number_at.ensures) (c.requires.fits (c.args.count - 1) (omega (arith, c.if-count-eq0.false))) in
    let decided = c.is_value-then-is_value.ensures ∙ ap (is_value scalar) (to_z-of_z w128 last fits) in
    let begins = first_fits c.args.start.now c.args.step.now (c.requires.fits 0 (omega (arith, c.if-count-eq0.false))) in
    let first = ap (is_value scalar) (sym (to_z-of_z w128 c.args.start.now begins)) ∙ sym c.is_value.ensures ∙ c.if-is_value.true in
    last_decides scalar c.args.start.now c.args.step.now last c.args.count c.is_value-then-is_value.result c.requires.number (omega (arith, c.if-count-eq0.false)) first c.number_at.ensures decided

pub returns-else-is_value : goal.returns-else-is_value
returns-else-is_value c =
    let begins = first_fits c.args.start.now c.args.step.now (c.requires.fits 0 (omega (arith, c.if-count-eq0.false))) in
    let first = ap (is_value c.args.scalar.now) (sym (to_z-of_z w128 c.args.start.now begins)) ∙ sym c.is_value.ensures ∙ c.if-is_value.false in
    c.if-is_value.false ∙ sym (first_fails c.args.scalar.now c.args.start.now c.args.step.now c.args.count (omega (arith, c.if-count-eq0.false)) first)
