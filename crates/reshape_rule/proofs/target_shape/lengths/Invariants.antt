use Rattle.std.proofs.Common.{◌≡◌, ◌+◌, min, map, take}
use Rattle.reshape_rule.proofs.Words.{max_items, length_or}
use Rattle.reshape_rule.proofs.target_shape.lengths.Given as goal

abbrev pub invariant-loop-number : goal.invariant-loop-number
invariant-loop-number l = l.lengths.items ≡ map (λ number. min (length_or l.rest number) (max_items + 1)) (take l.number-index l.numbers)
