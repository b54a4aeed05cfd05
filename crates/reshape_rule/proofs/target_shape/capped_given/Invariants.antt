use Rattle.std.proofs.Common.{◌≡◌, ◌+◌, ◌*◌, ◌≤◌, min, drop}
use Rattle.reshape_rule.proofs.Words.{max_items, given}
use Rattle.reshape_rule.proofs.target_shape.capped_given.Given as goal

abbrev pub invariant-loop-number : goal.invariant-loop-number
invariant-loop-number l = record {
  small : l.product ≤ max_items + 1;
  rest : min (l.product * given (drop l.number-index l.numbers)) (max_items + 1) ≡ min (given l.numbers) (max_items + 1);
}
