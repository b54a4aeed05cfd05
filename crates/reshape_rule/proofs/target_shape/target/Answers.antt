use Rattle.std.proofs.Common.{◌≡◌, ◌/◌, rules, inr, sym, ap, subst, ◌∙◌, arith}
use Rattle.reshape_rule.proofs.Words.{Gives, count, make_up}
use Rattle.reshape_rule.proofs.CountLaws.{given-count}
use Rattle.reshape_rule.proofs.TargetLaws.{Passes, target_of-many, target_of-low, target_of-opened, target_of-unmade, target_of-ok}
use Rattle.reshape_rule.proofs.target_shape.target.Goals as goal

pub returns-then-numbers-gt-MAX_AXES-clause-value : goal.returns-then-numbers-gt-MAX_AXES-clause-value
returns-then-numbers-gt-MAX_AXES-clause-value c = inr (target_of-many (count c.args.old.now) c.args.numbers.now (omega arith))

pub returns-then-not-are_lengths-clause-value : goal.returns-then-not-are_lengths-clause-value
returns-then-not-are_lengths-clause-value c = inr (target_of-low (count c.args.old.now) c.args.numbers.now (omega arith) (sym c.are_lengths.ensures ∙ c.if-not-are_lengths.true))

pub returns-then-opened-gt1-clause-value : goal.returns-then-opened-gt1-clause-value
returns-then-opened-gt1-clause-value c =
    inr (target_of-opened (count c.args.old.now) c.args.numbers.now (omega arith) (sym c.are_lengths.ensures ∙ c.if-not-are_lengths.false) (omega (arith, c.left_open-opened.ensures)))

pub returns-then-not-make_up-clause-value : goal.returns-then-not-make_up-clause-value
returns-then-not-make_up-clause-value c =
    let passes : Passes (count c.args.old.now) c.args.numbers.now c.left_open-opened.result c.capped_given-given.result c.make_up.result = record {
      few = omega arith;
      high = sym c.are_lengths.ensures ∙ c.if-not-are_lengths.false;
      one = omega arith;
      opened_is = c.left_open-opened.ensures;
      product_is = c.capped_given-given.ensures;
      low = omega (arith, c.items-items.ensures.value, c.items-items.ensures.limit);
      made_is = c.make_up.ensures ∙ ap (λ n. make_up n c.left_open-opened.result c.capped_given-given.result) c.items-items.ensures.value;
    } in
    inr (target_of-unmade _ _ _ _ _ passes c.if-not-make_up.true)

pub returns-clause-value : goal.returns-clause-value
returns-clause-value c =
    let passes : Passes (count c.args.old.now) c.args.numbers.now c.left_open-opened.result c.capped_given-given.result c.make_up.result = record {
      few = omega arith;
      high = sym c.are_lengths.ensures ∙ c.if-not-are_lengths.false;
      one = omega arith;
      opened_is = c.left_open-opened.ensures;
      product_is = c.capped_given-given.ensures;
      low = omega (arith, c.items-items.ensures.value, c.items-items.ensures.limit);
      made_is = c.make_up.ensures ∙ ap (λ n. make_up n c.left_open-opened.result c.capped_given-given.result) c.items-items.ensures.value;
    } in
    let rest : c.unwrap_or-rest.result ≡ c.items-items.result / c.capped_given-given.result = search rules in
    subst (Gives (λ s. s) c.try_new.result) (sym (target_of-ok _ _ _ _ _ c.unwrap_or-rest.result c.as_slice.result.now passes c.if-not-make_up.false (rest ∙ ap (λ n. n / c.capped_given-given.result) c.items-items.ensures.value) (c.as_slice.ensures ∙ c.in_ok-lengths.ensures))) c.try_new.ensures

pub returns-clause-items : goal.returns-clause-items
returns-clause-items c = given-count (count c.args.old.now) c.args.numbers.now c.try_new.result (returns-clause-value c)
