use Rattle.std.proofs.Common.{◌≡◌, ◌+◌, ◌*◌, true, drop}
use Rattle.literal_items.proofs.Words.{total, listed, weight, all_values, can_hold}
use Rattle.literal_items.proofs.Fields.{put_fields}
use Rattle.literal_items.proofs.literal_item.+write_fields.Given as goal

-- the remaining fields complete the item, and they can hold their literals
abbrev pub invariant-write_fields-loop-k : goal.invariant-write_fields-loop-k
invariant-write_fields-loop-k l = record {
  castable : can_hold (listed (drop l.k l.fields)) (all_values (drop l.k l.literals)) ≡ true;
  left : put_fields l.item l.from (drop l.k l.fields) (drop l.k l.literals) ≡ put_fields l.fn.item l.from l.fields l.literals;
}

abbrev pub decreases-write_field : goal.decreases-write_field
decreases-write_field l = 2 * weight l.descr.now

abbrev pub decreases-write_fields : goal.decreases-write_fields
decreases-write_fields l = 2 * total l.structure.now.fields + 1
