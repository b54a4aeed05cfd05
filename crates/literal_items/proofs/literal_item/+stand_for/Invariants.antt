use Rattle.std.proofs.Common.{◌≡◌, ◌+◌, ◌*◌, drop}
use Rattle.literal_items.proofs.Words.{total, listed, weight, all_values, stand_for, passes}
use Rattle.literal_items.proofs.literal_item.+stand_for.Given as goal

-- the remaining fields decide the answer
abbrev pub invariant-stand_for-loop-k : goal.invariant-stand_for-loop-k
invariant-stand_for-loop-k l = stand_for (passes l.test) (listed (drop l.k l.fields)) (all_values (drop l.k l.literals)) ≡ stand_for (passes l.test) (listed l.fields) (all_values l.literals)

abbrev pub decreases-stands_for : goal.decreases-stands_for
decreases-stands_for l = 2 * weight l.descr.now

abbrev pub decreases-stand_for : goal.decreases-stand_for
decreases-stand_for l = 2 * total (listed l.fields.now) + 1
