use Rattle.std.proofs.Common.{◌≡◌, ◌<◌, ◌+◌, ◌*◌, take, drop, length, get_or, sym, ap, subst, ◌∙◌, arith, mul-one, mul-le-mul_left}
use Rattle.fancy_index.proofs.Words.{BeginAt, strides_along, count, length-offsets, offsets, factors_pos}
use Rattle.fancy_index.proofs.CutLaws.{begins-before, begins-behind, strides-before, strides-behind}
use Rattle.fancy_index.proofs.TableLaws.{counted, start-small, summed}
use Rattle.fancy_index.proofs.fast.offset_tables.table.Goals as goal

pub along-requires : goal.along-requires
along-requires c =
    let l = c.args.layout.now in
    let before = c.split_at.ensures.front ∙ ap (take c.args.axes) c.as_slice.ensures.value in
    subst (BeginAt l 0 l.offset) (sym before) (begins-before l c.args.axes c.requires.axes c.requires.some)

pub along-requires-2 : goal.along-requires-2
along-requires-2 c =
    let l = c.args.layout.now in
    let after = c.split_at.ensures.back ∙ ap (drop c.args.axes) c.as_slice.ensures.value in
    subst (BeginAt l c.args.axes l.offset) (sym after) (begins-behind l c.args.axes c.requires.axes c.requires.some)

pub overflow_cast-result : goal.overflow_cast-result
overflow_cast-result c = record { fits = omega (arith, start-small c.args.layout.now c.requires.some) }

pub returns : goal.returns
returns c =
    let l = c.args.layout.now in
    let k = c.args.axes in
    let before = c.split_at.ensures.front ∙ ap (take k) c.as_slice.ensures.value in
    let after = c.split_at.ensures.back ∙ ap (drop k) c.as_slice.ensures.value in
    let outer = c.in_ok-outer.outer in
    let inner = c.in_ok-inner.inner in
    let outer_strides = c.in_ok-outer.ensures.strides ∙ ap (strides_along l 0) before ∙ strides-before l k c.requires.axes c.requires.some in
    let inner_strides = c.in_ok-inner.ensures.strides ∙ ap (strides_along l k) after ∙ strides-behind l k c.requires.axes c.requires.some in
    let rows : length c.in_ok-rows.rows.items ≡ count outer.shape = ap length c.in_ok-rows.ensures.items ∙ length-offsets outer in
    let columns : length c.in_ok-columns.columns.items ≡ count inner.shape = ap length c.in_ok-columns.ensures.items ∙ length-offsets inner in
    let many : count l.shape ≡ count outer.shape * count inner.shape = counted l outer inner k c.requires.axes c.requires.some (c.in_ok-outer.ensures.shape ∙ before) outer_strides c.in_ok-outer.ensures.offset (c.in_ok-inner.ensures.shape ∙ after) inner_strides c.in_ok-inner.ensures.offset in
    let some : 0 < count inner.shape = (factors_pos (count outer.shape) (count inner.shape) (omega (arith, many, c.requires.some))).1 in
    record {
      some = omega (arith, columns, some);
      step = omega (arith, c.clamp-step.ensures);
      near = omega (arith, c.clamp-step.ensures);
      few = omega (arith, rows, many, c.as_slice.ensures.items, mul-le-mul_left (count outer.shape) some, mul-one (count outer.shape));
      start = start-small l c.requires.some;
      many = length-offsets l ∙ many ∙ (λ i. sym rows i * sym columns i);
      sums = λ r c' below below'.
          (λ i. get_or (offsets l) (r * columns i + c') 0 + l.offset)
          ∙ summed l outer inner k c.requires.axes c.requires.some (c.in_ok-outer.ensures.shape ∙ before) outer_strides c.in_ok-outer.ensures.offset (c.in_ok-inner.ensures.shape ∙ after) inner_strides c.in_ok-inner.ensures.offset r c' (omega (arith, below, rows)) (omega (arith, below', columns))
          ∙ (λ i. get_or (sym c.in_ok-rows.ensures.items i) r 0 + get_or (sym c.in_ok-columns.ensures.items i) c' 0);
      rows = c.in_ok-rows.ensures.small;
      columns = c.in_ok-columns.ensures.small;
    }
