use Rattle.std.proofs.Common.{ap, sym, drop, ◌+◌, ◌∙◌, ◌∷◌, ◌++◌, [], ◌≡◌, rules, arith}
use Rattle.reshape_rule.proofs.Words.{to_z-of_z, offsets, count, printed_strides}
use Rattle.reshape_rule.proofs.RankLaws.{later, later-below, printed-more, pushed_onto}
use Rattle.reshape_rule.proofs.without_copy.unit_strides.Goals as goal

pub loop-len-preserved : goal.loop-len-preserved
loop-len-preserved c =
    let lengths = c.as_slice-lengths.result.now in
    let list = offsets c.args.layout.now in
    let k = c.loop-len.len-index in
    let l = later lengths k c.loop-len.items c.loop-len-test.true c.loop-len.invariant.some c.loop-len.invariant.items in
    let stride = c.unit_stride.result in
    let pushed : c.push.new.self ≡ c.loop-len.strides ++ stride ∷ [] = search (rules, arith, to_z-of_z, c.in_ok-push.ensures.ok) in
    record {
      some = l.some;
      low = later-below lengths k c.loop-len.items (count c.args.layout.now.shape) l c.loop-len.invariant.low;
      items = l.is;
      made = pushed_onto c.loop-len.strides _ _ (printed_strides lengths list) stride (printed_strides (drop k lengths) list) pushed (printed-more lengths list k c.loop-len.items c.loop-len-test.true l ∙ ap (λ s. s ∷ printed_strides (drop (k + 1) lengths) list) (sym c.unit_stride.ensures)) c.loop-len.invariant.made;
    }
