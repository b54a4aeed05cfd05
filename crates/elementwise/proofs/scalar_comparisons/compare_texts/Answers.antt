use Rattle.std.proofs.Common.{map, refl, ap, ◌∙◌, length, arith}
use Rattle.elementwise.proofs.Words.{ScalarDescr, Bytes, item_from, count, BoolScalar, pairwise, compared_item}
use Rattle.elementwise.proofs.MadeLaws.{made-in}
use Rattle.elementwise.proofs.StretchedLaws.{inside}
use Rattle.elementwise.proofs.TrimmedLaws.{fewer_inside, trimmed_items}
use Rattle.elementwise.proofs.scalar_comparisons.compare_texts.Goals as goal

pub invariant_of-operands : goal.invariant_of-operands
invariant_of-operands c =
    let x = c.args.both.left in
    record { inside = inside (length x.block.now) _ c.in_ok-first.ensures (fewer_inside x c.args.width _ c.requires.left c.in_ok-cut.ensures.left.0) }

pub invariant_of-operands-2 : goal.invariant_of-operands-2
invariant_of-operands-2 c =
    let y = c.args.both.right in
    record { inside = inside (length y.block.now) _ c.in_ok-second.ensures (fewer_inside y c.args.other_width _ c.requires.right c.in_ok-cut.ensures.right.0) }

pub made-requires : goal.made-requires
made-requires c = record { can = tt; left = refl; right = refl; few = omega (arith, ap count c.in_ok-first.ensures.shape, c.items-items.ensures.value, c.items-items.ensures.limit) }

pub returns : goal.returns
returns c =
    let x = c.args.both.left in
    let y = c.args.both.right in
    let first = c.in_ok-first.ensures in
    let second = c.in_ok-second.ensures in
    made-in (ScalarDescr BoolScalar) c.in_ok-first.first.shape c.args.both.shape.now _ _ c.made.result first.shape
    ((λ i. pairwise (compared_item c.args.comparison) (map (item_from (ScalarDescr (Bytes c.in_ok-cut.cut)) x.block.now) (first.places i)) (map (item_from (ScalarDescr (Bytes c.in_ok-cut.other_cut)) y.block.now) (second.places i)))
    ∙ trimmed_items (compared_item c.args.comparison) x y c.args.width _ c.args.other_width _ c.args.both.shape.now c.requires.left c.requires.right c.args.both.first c.args.both.second c.in_ok-cut.ensures.left c.in_ok-cut.ensures.right)
    c.made.ensures
