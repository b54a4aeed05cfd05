use Rattle.std.proofs.Common.{◌≡◌, ◌+◌, ◌-◌, IfSome, drop, get_or, length, map, pos}
use Rattle.array_print.proofs.Words.{block_text, shown, part_offsets, opened}
use Rattle.array_print.specs.inside.Pushed.{Held}
use Rattle.array_print.proofs.printer.+push_block.Given as goal

-- The blocks so far follow the opening bracket. A text that is kept is that of each block, under stride 0.
abbrev pub invariant-loop-k : goal.invariant-loop-k
invariant-loop-k g l =
    let layout = l.items.layout.now in
    let f = shown l.items.descr.now l.items.widths.now l.items.block.now in
    record {
      sent : Held (opened f layout.shape l.axis l.k (part_offsets layout l.axis l.offset)) (g.W.Write.contents l.fn.writer) (g.W.Write.contents l.writer) l.fn.out l.out;
      same : IfSome l.kept (λ kept. (get_or layout.strides l.axis (pos 0) ≡ pos 0) × (kept.items ≡ block_text (l.axis + 1) (drop (l.axis + 1) layout.shape) (map f (part_offsets layout (l.axis + 1) l.offset))));
    }

abbrev pub decreases-push_block : goal.decreases-push_block
decreases-push_block g l = length l.items.now.layout.now.shape - l.axis
