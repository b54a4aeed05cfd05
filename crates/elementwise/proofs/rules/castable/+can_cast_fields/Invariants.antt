use Rattle.std.proofs.Common.{◌≡◌, ◌+◌, ◌*◌}
use Rattle.elementwise.proofs.Words.{total, listed, weight, can_cast_fields}
use Rattle.elementwise.proofs.FieldLaws.{left}
use Rattle.elementwise.proofs.rules.castable.+can_cast_fields.Given as goal

-- the remaining fields decide
abbrev pub invariant-can_cast_fields-loop-k : goal.invariant-can_cast_fields-loop-k
invariant-can_cast_fields-loop-k l = left l.from l.to l.k ≡ can_cast_fields (listed l.from) (listed l.to)

abbrev pub decreases-can_cast_field : goal.decreases-can_cast_field
decreases-can_cast_field l = 2 * weight l.from.now

abbrev pub decreases-can_cast_fields : goal.decreases-can_cast_fields
decreases-can_cast_fields l = 2 * total (listed l.from.now) + 1
