use Rattle.std.proofs.Common.{◌≡◌, ◌+◌, ◌*◌, ◌++◌, drop}
use Rattle.elem_descr.proofs.Words.{total, InOrder, listed, written_fields, weight}
use Rattle.elem_descr.proofs.format_text.write.+written.Given as goal

abbrev pub decreases-push_descr : goal.decreases-push_descr
decreases-push_descr l = 2 * weight l.descr.now

abbrev pub decreases-push_fields : goal.decreases-push_fields
decreases-push_fields l = 1 + 2 * total l.whole.now.fields

-- the fields so far are written
abbrev pub invariant-push_fields-loop-field : goal.invariant-push_fields-loop-field
invariant-push_fields-loop-field l = record {
  text : l.text.items ++ written_fields l.end (listed (drop l.field-index l.field-items)) l.size ≡ l.fn.text.items ++ written_fields 0 (listed l.field-items) l.size;
  in_order : InOrder l.end (listed (drop l.field-index l.field-items)) l.size;
}
