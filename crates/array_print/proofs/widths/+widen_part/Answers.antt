use Rattle.std.proofs.Common.{◌≡◌, ◌+◌, ◌*◌, ◌-◌, ◌<◌, ◌≤◌, ◌++◌, ℕ, pos, ◌+ℤ◌, ◌*ℤ◌, get_or, length, take, drop, sym, ap, ◌∙◌, arith, append_assoc, take-add, take_all}
use Rattle.array_print.proofs.Words.{append-nil, count, item_size, widths_at, part_offsets}
use Rattle.array_print.proofs.PartLaws.{part-some, part-leads, part-inner, part-block, length-part, part-item, part-item-inside}
use Rattle.array_print.proofs.OneLaws.{ones-part, ones-offsets}
use Rattle.array_print.proofs.RepeatLaws.{count-outer, widths-of-one}
use Rattle.array_print.proofs.widths.+widen_part.Goals as goal
use Rattle.array_print.proofs.widths.+widen_part.Goals.{then-repeats, else-repeats}

-- the axes that are passed over have length 1
pub widen_part-requires : goal.widen_part-requires
widen_part-requires t c =
    let l = c.args.items.now.layout.now in
    let next = c.past_ones-next.result in
    let within : next ≤ length l.shape = omega (arith, ap length c.as_slice-lengths.ensures.value, c.past_ones-next.ensures.within) in
    let passed : c.args.axis + (next - c.args.axis) ≡ next = omega (arith, c.past_ones-next.ensures.from) in
    let ones : (k : ℕ) → c.args.axis ≤ k → k < next → get_or l.shape k 0 ≡ 1 = λ k from to. ap (λ s. get_or s k 0) (sym c.as_slice-lengths.ensures.value) ∙ c.past_ones-next.ensures.ones k from to in
    (omega (arith, c.decreases, c.if-next-axis.true, within), (c.requires.leaves, ones-part l c.args.offset _ _ (next - c.args.axis) c.args.axis next passed within ones c.requires.part))

pub returns-then-next-axis : goal.returns-then-next-axis
returns-then-next-axis t c = λ seen is.
    let l = c.args.items.now.layout.now in
    let next = c.past_ones-next.result in
    let within : next ≤ length l.shape = omega (arith, ap length c.as_slice-lengths.ensures.value, c.past_ones-next.ensures.within) in
    let passed : c.args.axis + (next - c.args.axis) ≡ next = omega (arith, c.past_ones-next.ensures.from) in
    let ones : (k : ℕ) → c.args.axis ≤ k → k < next → get_or l.shape k 0 ≡ 1 = λ k from to. ap (λ s. get_or s k 0) (sym c.as_slice-lengths.ensures.value) ∙ c.past_ones-next.ensures.ones k from to in
    let same = ones-offsets l c.args.offset (length c.args.items.now.block.now) (item_size c.args.items.now.descr.now) (next - c.args.axis) c.args.axis next passed within ones c.requires.part in
    c.widen_part.ensures seen is ∙ ap (λ os. widths_at c.args.items.now.descr.now c.args.items.now.block.now (seen ++ os)) (sym same)

pub widen-requires-clause-inside : goal.widen-requires-clause-inside
widen-requires-clause-inside t c =
    part-item-inside c.args.items.now.layout.now c.args.axis c.args.offset _ _ (omega (arith, c.if-axis-lengths.true, ap length c.as_slice-lengths.ensures.value)) c.requires.part

pub returns-then-axis-lengths : goal.returns-then-axis-lengths
returns-then-axis-lengths t c = λ seen is.
    let l = c.args.items.now.layout.now in
    let one = part-item l c.args.axis c.args.offset (omega (arith, c.if-axis-lengths.true, ap length c.as_slice-lengths.ensures.value)) in
    c.widen.ensures seen is ∙ ap (λ os. widths_at c.args.items.now.descr.now c.args.items.now.block.now (seen ++ os)) (sym one)

pub loop-k-init : goal.loop-k-init
loop-k-init t c =
    let l = c.args.items.now.layout.now in
    let wide = widths_at c.args.items.now.descr.now c.args.items.now.block.now in
    let none : 0 ≡ 0 * count (drop (c.args.axis + 1) l.shape) = omega arith in
    let below : c.args.axis < length l.shape = omega (arith, c.if-axis-lengths.false, ap length c.as_slice-lengths.ensures.value, c.requires.part.axes) in
    let some = part-some l c.args.axis c.args.offset _ _ below c.requires.part in
    let all = ap (λ s. get_or s c.args.axis 0) c.as_slice-lengths.ensures.value in
    record {
      few = elim c.if-repeats.branch [ then-repeats w ↦ omega (arith, w.steps-is, some.0) | else-repeats w ↦ omega (arith, w.steps-is, all) ];
      wide = λ seen is. is ∙ ap wide (sym (append-nil seen)) ∙ ap (λ m. wide (seen ++ take m (part_offsets l c.args.axis c.args.offset))) none;
    }

pub step_along-requires-clause-leads : goal.step_along-requires-clause-leads
step_along-requires-clause-leads t c =
    let l = c.args.items.now.layout.now in
    let below : c.args.axis < length l.shape = omega (arith, c.if-axis-lengths.false, ap length c.as_slice-lengths.ensures.value, c.requires.part.axes) in
    let low : c.loop-k.k < get_or l.shape c.args.axis 0 = omega (arith, c.loop-k-test.true, c.loop-k.invariant.few) in
    part-leads l c.args.axis c.args.offset _ _ below c.requires.part c.loop-k.k _ low c.as_slice-strides.ensures

pub widen_part-requires-in-loop-k : goal.widen_part-requires-in-loop-k
widen_part-requires-in-loop-k t c =
    let l = c.args.items.now.layout.now in
    let below : c.args.axis < length l.shape = omega (arith, c.if-axis-lengths.false, ap length c.as_slice-lengths.ensures.value, c.requires.part.axes) in
    let low : c.loop-k.k < get_or l.shape c.args.axis 0 = omega (arith, c.loop-k-test.true, c.loop-k.invariant.few) in
    let is : pos c.step_along.result ≡ pos c.args.offset +ℤ get_or l.strides c.args.axis (pos 0) *ℤ pos c.loop-k.k = c.step_along.ensures ∙ ap (λ s. pos c.args.offset +ℤ get_or s c.args.axis (pos 0) *ℤ pos c.loop-k.k) c.as_slice-strides.ensures in
    (omega (arith, c.decreases, below), (omega (arith, c.loop-k.auto.widths, c.requires.leaves), part-inner l c.args.axis c.args.offset _ _ below c.requires.part c.loop-k.k c.step_along.result low is))

pub loop-k-preserved : goal.loop-k-preserved
loop-k-preserved t c =
    let l = c.args.items.now.layout.now in
    let k = c.loop-k.k in
    let inner = count (drop (c.args.axis + 1) l.shape) in
    let offsets = part_offsets l c.args.axis c.args.offset in
    let wide = widths_at c.args.items.now.descr.now c.args.items.now.block.now in
    let below : c.args.axis < length l.shape = omega (arith, c.if-axis-lengths.false, ap length c.as_slice-lengths.ensures.value, c.requires.part.axes) in
    let low : k < get_or l.shape c.args.axis 0 = omega (arith, c.loop-k-test.true, c.loop-k.invariant.few) in
    let is_at : pos c.step_along.result ≡ pos c.args.offset +ℤ get_or l.strides c.args.axis (pos 0) *ℤ pos k = c.step_along.ensures ∙ ap (λ s. pos c.args.offset +ℤ get_or s c.args.axis (pos 0) *ℤ pos k) c.as_slice-strides.ensures in
    let more : k * inner + inner ≡ (k + 1) * inner = omega arith in
    record {
      few = c.loop-k.invariant.few;
      wide = λ seen is. c.widen_part-in-loop-k.ensures (seen ++ take (k * inner) offsets) (c.loop-k.invariant.wide seen is)
          ∙ ap (λ os. wide ((seen ++ take (k * inner) offsets) ++ os)) (sym (part-block l c.args.axis c.args.offset _ _ below c.requires.part k c.step_along.result low is_at))
          ∙ ap wide (append_assoc seen (take (k * inner) offsets) (take inner (drop (k * inner) offsets)))
          ∙ ap (λ os. wide (seen ++ os)) (sym (take-add (k * inner) inner offsets))
          ∙ ap (λ m. wide (seen ++ take m offsets)) more;
    }

pub returns : goal.returns
returns t c = λ seen is.
    let l = c.args.items.now.layout.now in
    let k = c.loop-k.k in
    let inner = count (drop (c.args.axis + 1) l.shape) in
    let offsets = part_offsets l c.args.axis c.args.offset in
    let wide = widths_at c.args.items.now.descr.now c.args.items.now.block.now in
    let below : c.args.axis < length l.shape = omega (arith, c.if-axis-lengths.false, ap length c.as_slice-lengths.ensures.value, c.requires.part.axes) in
    let end : k ≡ c.if-repeats.steps = omega (arith, c.loop-k-test.false, c.loop-k.auto.k-end) in
    c.loop-k.invariant.wide seen is ∙ elim c.if-repeats.branch [
      | then-repeats w ↦
          let none : get_or l.strides c.args.axis (pos 0) ≡ pos 0 = ap (λ s. get_or s c.args.axis (pos 0)) (sym c.as_slice-strides.ensures) ∙ c.repeats.ensures.0 w.if-repeats.true in
          ap (λ m. wide (seen ++ take (m * inner) offsets)) (end ∙ w.steps-is)
          ∙ widths-of-one c.args.items.now.descr.now c.args.items.now.block.now seen l c.args.axis c.args.offset _ _ below c.requires.part none
      | else-repeats w ↦
          let every : k ≡ get_or l.shape c.args.axis 0 = end ∙ w.steps-is ∙ ap (λ s. get_or s c.args.axis 0) c.as_slice-lengths.ensures.value in
          ap (λ os. wide (seen ++ os)) (take_all (k * inner) offsets (omega (arith, length-part l c.args.axis c.args.offset, count-outer l c.args.axis below, ap (λ m. m * inner) every)))
    ]
