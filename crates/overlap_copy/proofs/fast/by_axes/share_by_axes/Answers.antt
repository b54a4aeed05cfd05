use Rattle.std.proofs.Common.{◌-◌, arith, refl, subst, sym}
use Rattle.overlap_copy.proofs.Words.{IfSome_then, same_test, axes, offsets, AreForward, HasSum}
use Rattle.overlap_copy.proofs.OverlapLaws.{some_where_meet, starts_below}
use Rattle.overlap_copy.proofs.AxesLaws.{lie_by_axes, both-are}
use Rattle.overlap_copy.proofs.fast.by_axes.share_by_axes.Goals as goal

pub overflow_sub-high : goal.overflow_sub-high
overflow_sub-high c =
    omega (arith, starts_below (offsets c.args.a.now) (offsets c.args.b.now) c.args.a_item c.args.b_item c.span-2.result.start c.span.result.end c.span-2.ensures.low c.span.ensures.high c.requires.meet)

pub overflow_sub-high-2 : goal.overflow_sub-high-2
overflow_sub-high-2 c =
    omega (arith, starts_below (offsets c.args.a.now) (offsets c.args.b.now) c.args.a_item c.args.b_item c.span-2.result.start c.span.result.end c.span-2.ensures.low c.span.ensures.high c.requires.meet)

pub overflow_add-a_item : goal.overflow_add-a_item
overflow_add-a_item c =
    let some = some_where_meet (offsets c.args.a.now) c.args.a_item (offsets c.args.b.now) c.args.b_item c.requires.meet in
    record { fits = omega (arith, c.span-2.ensures.limit, c.span-2.ensures.high 0 0 some.0, c.span.ensures.limit, c.span.ensures.high 0 0 some.1) }

pub has_sum-requires : goal.has_sum-requires
has_sum-requires c =
    let a = c.args.a.now in
    let b = c.args.b.now in
    let lie = lie_by_axes a b c.args.a_item c.args.b_item c.span-2.result.start c.span.result.end c.span-2.result.end c.requires.meet c.span-2.ensures.low c.span-2.ensures.high c.span-2.ensures.first c.span-2.ensures.limit c.span.ensures.high c.span.ensures.last c.span.ensures.limit c.axes-a_axes.ensures.above c.axes-b_axes.ensures.below in
    let are = both-are (axes a.strides a.shape) (axes b.strides b.shape) _ _ _ _ _ _ _ c.both-axes.ensures c.rank.ensures.value c.rank-2.ensures.value c.axes-a_axes.ensures.value c.axes-b_axes.ensures.value in
    subst AreForward (sym are) lie.forward

pub returns : goal.returns
returns c =
    let a = c.args.a.now in
    let b = c.args.b.now in
    let lie = lie_by_axes a b c.args.a_item c.args.b_item c.span-2.result.start c.span.result.end c.span-2.result.end c.requires.meet c.span-2.ensures.low c.span-2.ensures.high c.span-2.ensures.first c.span-2.ensures.limit c.span.ensures.high c.span.ensures.last c.span.ensures.limit c.axes-a_axes.ensures.above c.axes-b_axes.ensures.below in
    let are = both-are (axes a.strides a.shape) (axes b.strides b.shape) _ _ _ _ _ _ _ c.both-axes.ensures c.rank.ensures.value c.rank-2.ensures.value c.axes-a_axes.ensures.value c.axes-b_axes.ensures.value in
    let low = c.saturating_sub-low.result in
    let high = c.span.result.end - c.span-2.result.start - 1 in
    IfSome_then c.has_sum.result c.has_sum.ensures (λ yes is. same_test yes _ (λ t. lie.to low high refl c.saturating_sub-low.ensures (subst (λ l. HasSum l low high) are (is.0 t))) (λ holds. is.1 (subst (λ l. HasSum l low high) (sym are) (lie.from low high refl c.saturating_sub-low.ensures holds))))
