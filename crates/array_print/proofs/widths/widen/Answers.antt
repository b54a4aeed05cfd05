use Rattle.std.proofs.Common.{◌<◌, ◌≢◌, ◌≡◌, ◌++◌, ◌∷◌, [], length, get_or, ap, ◌∙◌, arith, below_more, get_or-set_other, get_or-set_same}
use Rattle.array_print.proofs.Words.{same_lists, get_or_default, leaves_of, widths_at}
use Rattle.array_print.proofs.WidthLaws.{length-widths-at, one-wider}
use Rattle.array_print.proofs.widths.widen.Goals as goal

pub loop-k-preserved : goal.loop-k-preserved
loop-k-preserved c =
    let k = c.loop-k.k in
    let ws = c.loop-k.widths in
    let d = c.args.descr.now in
    let block = c.args.block.now in
    let below : k < length (leaves_of d) = omega (arith, c.loop-k-test.true, c.requires.leaves) in
    let inside : k < length ws = omega (arith, c.loop-k-test.true, c.loop-k.auto.widths) in
    record {
      done = λ seen is.
          below_more _ _
          (λ j low. let other : j ≢ k = omega arith in rw get_or-set_other (c.loop-k.invariant.done seen is j low))
          (rw get_or-set_same (one-wider d block seen c.args.offset k c.leaf_at-scalar.result.0 c.leaf_at-scalar.result.1 (get_or ws k 0) c.widened.result below c.leaf_at-scalar.ensures.within c.leaf_at-scalar.ensures.leaf
          (c.loop-k.invariant.left k (omega arith) ∙ ap (λ l. get_or l k 0) is) c.widened.ensures));
      left = λ j late. let other : j ≢ k = omega arith in rw get_or-set_other (c.loop-k.invariant.left j (omega arith));
    }

pub returns : goal.returns
returns c seen is =
    let ws = c.loop-k.widths in
    let new = widths_at c.args.descr.now c.args.block.now (seen ++ c.args.offset ∷ []) in
    let many : length ws ≡ length new = omega (arith, c.loop-k.auto.widths, c.requires.leaves, length-widths-at c.args.descr.now c.args.block.now (seen ++ c.args.offset ∷ [])) in
    same_lists ws new many (λ j d below.
    get_or_default ws j d 0 below ∙ c.loop-k.invariant.done seen is j (omega (arith, c.loop-k-test.false, c.loop-k.auto.widths, c.loop-k.auto.k-end)) ∙ get_or_default new j 0 d (omega (arith, many)))
