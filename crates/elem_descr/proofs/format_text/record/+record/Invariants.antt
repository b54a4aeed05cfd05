use Rattle.std.proofs.Common.{◌≡◌, ◌+◌, ◌-◌, ◌*◌, length}
use Rattle.elem_descr.proofs.Words.{members, record_within}
use Rattle.elem_descr.proofs.format_text.record.+record.Given as goal

abbrev pub decreases-field_at : goal.decreases-field_at
decreases-field_at l = 2 * l.builder.now.levels + 1

abbrev pub decreases-record_within : goal.decreases-record_within
decreases-record_within l = 2 * l.levels

-- the members so far are read
abbrev pub invariant-record_within-loop-turn : goal.invariant-record_within-loop-turn
invariant-record_within-loop-turn l = record {
  read : record_within l.levels l.fn.mark l.leaves l.text ≡ members (record_within (l.levels - 1)) (length l.text - l._turn) l.mark l.builder l.rest;
  levels : l.builder.levels + 1 ≡ l.levels;
}
