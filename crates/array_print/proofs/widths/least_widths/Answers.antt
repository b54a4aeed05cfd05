use Rattle.std.proofs.Common.{◌<◌, ◌++◌, ◌∷◌, [], length, sym, ◌∙◌, arith, take_all}
use Rattle.array_print.proofs.Words.{take_more, leaves_of, leaf_widths}
use Rattle.array_print.proofs.LeafLaws.{are-leaf-widths, count-widths}
use Rattle.array_print.proofs.WidthLaws.{least-at}
use Rattle.array_print.proofs.widths.least_widths.Goals as goal

pub loop-k-preserved : goal.loop-k-preserved
loop-k-preserved c =
    let leaves = leaves_of c.args.descr.now in
    let all = leaf_widths leaves [] in
    let below : c.loop-k.k < length all = omega (arith, count-widths leaves all (are-leaf-widths leaves []), c.leaf_count-k-end.ensures.value, c.loop-k-test.true) in
    let width = c.least_width.ensures ∙ least-at c.args.descr.now c.loop-k.k c.leaf_at-scalar.result.0 c.leaf_at-scalar.result.1 (omega (arith, c.leaf_count-k-end.ensures.value, c.loop-k-test.true)) c.leaf_at-scalar.ensures.leaf in
    c.in_ok-push.ensures.ok ∙ (λ i. c.loop-k.invariant i ++ (width i ∷ [])) ∙ sym (take_more all c.loop-k.k 0 below)

pub returns : goal.returns
returns c =
    let leaves = leaves_of c.args.descr.now in
    let all = leaf_widths leaves [] in
    c.loop-k.invariant ∙ take_all c.loop-k.k all (omega (arith, count-widths leaves all (are-leaf-widths leaves []), c.leaf_count-k-end.ensures.value, c.loop-k-test.false))
