use Rattle.std.proofs.Common.{◌+◌, ◌-◌, ◌≤◌, All, ◌∙◌, arith}
use Rattle.overlap_copy.proofs.Words.{list_any, max_bytes, offsets, is_end_marked}
use Rattle.overlap_copy.proofs.OverlapLaws.{some_where_meet, common-ends}
use Rattle.overlap_copy.proofs.ShareLaws.{ends-held}
use Rattle.overlap_copy.proofs.share.share_by_map.Goals as goal

pub overflow_add-len : goal.overflow_add-len
overflow_add-len c =
    let some = some_where_meet (offsets c.args.a.now) c.args.a_item (offsets c.args.b.now) c.args.b_item c.requires.meet in
    let small = c.new-offsets.ensures.within max_bytes c.args.b_item c.requires.b_fits 0 0 some.1 in
    record { fits = omega (arith, c.span-bytes.ensures.limit, small) }

pub overflow_add-a_item : goal.overflow_add-a_item
overflow_add-a_item c =
    let some = some_where_meet (offsets c.args.a.now) c.args.a_item (offsets c.args.b.now) c.args.b_item c.requires.meet in
    let small = c.new-offsets.ensures.within max_bytes c.args.b_item c.requires.b_fits 0 0 some.1 in
    record { fits = omega (arith, c.span-bytes.ensures.limit, c.span-bytes.ensures.high 0 0 some.0, small) }

pub returns : goal.returns
returns c =
    let a = offsets c.args.a.now in
    let b = offsets c.args.b.now in
    let bytes = c.span-bytes.result in
    let rest = c.args.b_item - 1 in
    let width = c.args.a_item + rest in
    let len = bytes.end - bytes.start + rest in
    let marks = c.in_ok-marks.marks.items in
    let some = some_where_meet a c.args.a_item b c.args.b_item c.requires.meet in
    let high : All (λ p. p + width ≤ bytes.start + len) a = λ k d inside. omega (arith, c.span-bytes.ensures.low k d inside, c.span-bytes.ensures.high k d inside) in
    c.is_any_end_marked.ensures
    ∙ (λ i. list_any (is_end_marked (c.deref.ensures.value i) bytes.start c.args.b_item) (c.new-offsets.ensures.items i))
    ∙ ends-held a width bytes.start len marks c.in_ok-marks.ensures.len c.span-bytes.ensures.low high c.in_ok-marks.ensures.value b c.args.b_item
    ∙ common-ends a c.args.a_item b c.args.b_item c.requires.a_some c.requires.b_some
