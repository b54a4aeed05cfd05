use Rattle.std.proofs.Common.{◌≡◌, ◌+◌, ◌≤◌, drop}
use Rattle.reshape_rule.proofs.Words.{left_open}
use Rattle.reshape_rule.proofs.target_shape.left_open.Given as goal

abbrev pub invariant-loop-number : goal.invariant-loop-number
invariant-loop-number l = record {
  few : l.opened ≤ l.number-index;
  rest : l.opened + left_open (drop l.number-index l.numbers) ≡ left_open l.numbers;
}
