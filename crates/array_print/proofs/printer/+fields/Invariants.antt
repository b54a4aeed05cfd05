use Rattle.std.proofs.Common.{◌≡◌, ◌+◌, ◌*◌, ◌++◌, codes, take, drop}
use Rattle.array_print.proofs.Words.{listed, leaf_count, total, weight, join_texts, field_texts, texts_at}
use Rattle.array_print.specs.inside.Pushed.{Held}
use Rattle.array_print.proofs.printer.+fields.Given as goal

-- the texts so far follow the opening parenthesis
abbrev pub invariant-push_record-loop-i : goal.invariant-push_record-loop-i
invariant-push_record-loop-i g l =
    let leaves = texts_at l.item.items.descr.now l.item.items.widths.now l.item.items.block.now l.item.offset in
    let texts = field_texts (listed l.fields) (drop l.k leaves) in
    record {
      sent : Held (codes "(" ++ join_texts (codes ", ") (take l.i texts)) (g.W.Write.contents l.fn.writer) (g.W.Write.contents l.writer) l.fn.out l.out;
      unread : drop l.i texts ≡ field_texts (listed (drop l.i l.fields)) (drop l.leaf leaves);
      count : l.leaf + leaf_count (listed (drop l.i l.fields)) ≡ l.k + leaf_count (listed l.fields);
    }

abbrev pub decreases-push_field : goal.decreases-push_field
decreases-push_field g l = 2 * weight l.descr.now

abbrev pub decreases-push_record : goal.decreases-push_record
decreases-push_record g l = 2 * total (listed l.fields.now) + 1
