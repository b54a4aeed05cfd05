use Rattle.std.proofs.Common.{◌+◌, ◌*◌, min, drop, ap, ◌∙◌, arith}
use Rattle.shape_strides.proofs.Words.{max_items, count}
use Rattle.shape_strides.proofs.CountLaws.{capped-more}
use Rattle.shape_strides.proofs.shape.capped_count.Goals as goal

pub loop-len-preserved : goal.loop-len-preserved
loop-len-preserved c = record {
  small = omega arith;
  rest = ap (λ x. min (x * count (drop (c.loop-len.len-index + 1) c.args.lengths.now)) (max_items + 1)) c.min-items.ensures ∙ capped-more c.args.lengths.now c.loop-len.len-index c.loop-len.items (max_items + 1) c.loop-len-test.true ∙ c.loop-len.invariant.rest;
}
