use Rattle.std.proofs.Common.{◌≡◌, ◌+◌, ◌*◌, ◌++◌, true, codes, drop}
use Rattle.npy_format.proofs.Words.{total, InOrder, listed, weight, separated, entries}
use Rattle.npy_format.proofs.header_text.+written.Given as goal

abbrev pub decreases-push_descr : goal.decreases-push_descr
decreases-push_descr l = 2 * weight l.descr.now

abbrev pub decreases-push_record : goal.decreases-push_record
decreases-push_record l = 1 + 2 * total l.whole.now.fields

-- the fields so far are written
abbrev pub invariant-push_record-loop-field : goal.invariant-push_record-loop-field
invariant-push_record-loop-field l = record {
  text : l.text.items ++ separated l.is_first (entries l.end (listed (drop l.field-index l.field-items)) l.size) ≡ (l.fn.text.items ++ codes "[") ++ separated true (entries 0 (listed l.field-items) l.size);
  in_order : InOrder l.end (listed (drop l.field-index l.field-items)) l.size;
}
