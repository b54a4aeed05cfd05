use Rattle.std.proofs.Common.{◌≡◌, ◌+◌, ◌*◌, min, pos, drop, get_or, ap, ◌∙◌, arith, rules}
use Rattle.reshape_rule.proofs.Words.{to_z-of_z, max_items, given, length_or}
use Rattle.reshape_rule.proofs.TargetLaws.{capped-more}
use Rattle.reshape_rule.proofs.target_shape.capped_given.Goals as goal

pub loop-number-preserved : goal.loop-number-preserved
loop-number-preserved c =
    let numbers = c.args.numbers.now in
    let k = c.loop-number.number-index in
    let factor : c.capped_length.result ≡ min (length_or 1 (get_or numbers k (pos 0))) (max_items + 1) = search (rules, arith, to_z-of_z, c.capped_length.ensures) in
    record {
      small = omega (arith, c.min-product.ensures);
      rest = ap (λ x. min (x * given (drop (k + 1) numbers)) (max_items + 1)) (c.min-product.ensures ∙ ap (λ n. min (c.loop-number.product * n) (max_items + 1)) factor) ∙ capped-more numbers k c.loop-number.product (max_items + 1) c.loop-number-test.true ∙ c.loop-number.invariant.rest;
    }
