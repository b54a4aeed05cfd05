use Rattle.std.proofs.Common.{◌≡◌, ◌+◌, ◌||◌, false, length, get_or, nat_eq, take, drop, ◌++◌, ap, ◌∙◌, arith}
use Rattle.overlap_copy.proofs.Words.{list_any, offsets}
use Rattle.overlap_copy.proofs.ShareLaws.{refilled, held-marks, none-clear}
use Rattle.overlap_copy.proofs.share.held_bytes.Goals as goal

pub returns-clause-value : goal.returns-clause-value
returns-clause-value c = λ i inside.
    let n = c.in_ok-marks.marks.len in
    let clear = c.deref_mut.result.now in
    let first = c.mark_each.new.marks in
    let wide = c.widen.new.marks in
    let all : length clear ≡ c.args.len = omega (arith, c.deref_mut.ensures.len, c.in_ok-marks.ensures.len) in
    let first-is : take n (first ++ drop (length first) c.in_ok-marks.marks.items) ≡ first = refilled n c.in_ok-marks.marks.items first (omega (arith, c.mark_each.ensures.len, c.deref_mut.ensures.len)) in
    let now-is : c.deref_mut-2.result.now ≡ first = c.deref_mut-2.ensures.value ∙ first-is in
    let wide-is = refilled n (take n (first ++ drop (length first) c.in_ok-marks.marks.items)) wide (omega (arith, c.widen.ensures.len, ap length now-is, c.mark_each.ensures.len, c.deref_mut.ensures.len)) in
    let zeros = c.deref_mut.ensures.value ∙ c.in_ok-marks.ensures.items_if_clones_equal (λ y same. same) in
    ap (λ l. get_or l i false) wide-is
    ∙ held-marks (offsets c.args.layout.now) c.args.width c.args.start c.args.len clear first wide c.requires.low
    (λ k. none-clear c.args.len k clear zeros)
    (λ k below. c.mark_each.ensures.value k (omega (arith, below, all)) ∙ ap (λ os. get_or clear k false || list_any (nat_eq (c.args.start + k)) os) c.new.ensures.items)
    (λ k below. rw now-is at c.widen.ensures.value k (omega (arith, below, all, ap length now-is, c.mark_each.ensures.len)))
    i inside
