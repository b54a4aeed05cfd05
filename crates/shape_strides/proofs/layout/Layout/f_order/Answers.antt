use Rattle.std.proofs.Common.{◌*◌, pos, map, length, refl, sym, ap, ◌∙◌}
use Rattle.shape_strides.proofs.Words.{max_bytes, count, length-offsets}
use Rattle.shape_strides.proofs.LayoutLaws.{LieWithin-weaker}
use Rattle.shape_strides.proofs.FortranLaws.{length-f_order, f_order_stands, f_order_offsets, f_order_order, f_order_nested, f_order_lies}
use Rattle.shape_strides.proofs.layout.Layout.f_order.Goals as goal

pub invariant_of-result : goal.invariant_of-result
invariant_of-result c =
    let shape = c.in_ok-shape.shape in
    let strides = c.in_ok-strides.strides in
    let item = c.args.item in
    let lies = f_order_lies shape strides c.args.shape.now item c.in_ok-shape.ensures (f_order_stands shape strides c.args.shape.now item c.in_ok-shape.ensures c.in_ok-strides.ensures.some) in
    record {
      one_stride_an_axis = length-f_order item c.args.shape.now strides c.in_ok-strides.ensures.some c.in_ok-strides.ensures.none ∙ sym (ap length c.in_ok-shape.ensures);
      within_limit = LieWithin-weaker shape strides 0 (count c.args.shape.now * item) max_bytes item 1 c.requires.bytes c.requires.item_low lies;
      zero_if_empty = λ none. (refl, c.in_ok-strides.ensures.none (sym (ap count c.in_ok-shape.ensures) ∙ none) ∙ sym (ap (map (λ _. pos 0)) c.in_ok-shape.ensures));
    }

pub returns-clause-offsets : goal.returns-clause-offsets
returns-clause-offsets c = f_order_offsets _ c.args.shape.now c.args.item c.in_ok-shape.ensures (f_order_stands c.in_ok-shape.shape c.in_ok-strides.strides c.args.shape.now c.args.item c.in_ok-shape.ensures c.in_ok-strides.ensures.some)

pub returns-clause-order : goal.returns-clause-order
returns-clause-order c = f_order_order _ c.args.shape.now c.args.item c.in_ok-shape.ensures (f_order_stands c.in_ok-shape.shape c.in_ok-strides.strides c.args.shape.now c.args.item c.in_ok-shape.ensures c.in_ok-strides.ensures.some)

pub returns-clause-count : goal.returns-clause-count
returns-clause-count c = length-offsets _ ∙ ap count c.in_ok-shape.ensures

pub returns-clause-nested : goal.returns-clause-nested
returns-clause-nested c = f_order_nested _ c.args.item (f_order_stands c.in_ok-shape.shape c.in_ok-strides.strides c.args.shape.now c.args.item c.in_ok-shape.ensures c.in_ok-strides.ensures.some)

pub returns-clause-fits : goal.returns-clause-fits
returns-clause-fits c = f_order_lies c.in_ok-shape.shape c.in_ok-strides.strides c.args.shape.now c.args.item c.in_ok-shape.ensures (f_order_stands c.in_ok-shape.shape c.in_ok-strides.strides c.args.shape.now c.args.item c.in_ok-shape.ensures c.in_ok-strides.ensures.some)
