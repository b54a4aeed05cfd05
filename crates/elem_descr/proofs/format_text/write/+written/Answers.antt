use Rattle.std.proofs.Common.{◌≡◌, ◌-◌, ◌++◌, ℕ, List, refl, sym, ap, ◌∙◌, arith}
use Rattle.elem_descr.proofs.Words.{Fields, listed, written_pad, written_fields, listed-fields_of, field_within, weight-one, first_field}
use Rattle.elem_descr.proofs.WrittenFields.{one_written, all_written}
use Rattle.elem_descr.proofs.format_text.write.+written.Goals as goal

pub push_fields-loop-field-init : goal.push_fields-loop-field-init
push_fields-loop-field-init t c =
    record { text = refl; in_order = rw (c.fields-field-items.ensures.value, listed-fields_of c.args.whole.now.fields, c.size-size.ensures.value) c.size-size.ensures.legal.in_order }

pub push_fields-overflow_sub-field : goal.push_fields-overflow_sub-field
push_fields-overflow_sub-field t c =
    (first_field c.loop-field.end c.size-size.result c.fields-field-items.result.now c.field-item.result c.loop-field.field-index c.loop-field-test.true c.field-item.is c.loop-field.invariant.in_order).0

pub push_fields-push_descr-requires : goal.push_fields-push_descr-requires
push_fields-push_descr-requires t c =
    let fields : listed c.fields-field-items.result.now ≡ c.args.whole.now.fields = ap listed c.fields-field-items.ensures.value ∙ listed-fields_of c.args.whole.now.fields in
    let less = rw fields at (weight-one c.fields-field-items.result.now c.loop-field.field-index c.field-item.result c.loop-field-test.true c.field-item.is) in
    (omega (arith, less, c.decreases), tt)

pub push_fields-overflow_add-end : goal.push_fields-overflow_add-end
push_fields-overflow_add-end t c =
    let fields : listed c.fields-field-items.result.now ≡ c.args.whole.now.fields = ap listed c.fields-field-items.ensures.value ∙ listed-fields_of c.args.whole.now.fields in
    let ends = field_within 0 c.fields-field-items.result.now c.args.whole.now.size c.loop-field.field-index c.field-item.result (rw fields c.size-size.ensures.legal.in_order) c.loop-field-test.true c.field-item.is in
    omega (arith, ends, c.size.ensures.value, c.size-size.ensures)

pub push_fields-loop-field-preserved : goal.push_fields-loop-field-preserved
push_fields-loop-field-preserved t c =
    let items = c.fields-field-items.result.now in
    let parts = first_field c.loop-field.end c.size-size.result items c.field-item.result c.loop-field.field-index c.loop-field-test.true c.field-item.is c.loop-field.invariant.in_order in
    let more = one_written c.loop-field.end c.size-size.result items c.field-item.result c.loop-field.field-index c.loop-field.text.items c.push_pad.new.text.items c.push_descr.new.text.items _ c.loop-field-test.true c.field-item.is c.in_ok-push_pad.ensures c.in_ok-push_descr.ensures c.loop-field.invariant.text in
    let named = c.in_ok-push_name.ensures in
    let name = c.as_slice.ensures in
    record { text = rw (named, name, c.size.ensures.value) more; in_order = rw c.size.ensures.value parts.2 }

pub push_fields-returns-clause-spelled : goal.push_fields-returns-clause-spelled
push_fields-returns-clause-spelled t c =
    let items = c.fields-field-items.result.now in
    let fields : listed items ≡ c.args.whole.now.fields = ap listed c.fields-field-items.ensures.value ∙ listed-fields_of c.args.whole.now.fields in
    let last = all_written c.loop-field.end c.size-size.result items c.loop-field.field-index c.loop-field-test.false in
    let all : c.loop-field.text.items ++ written_pad (c.size-size.result - c.loop-field.end) ≡ c.args.text.now.items ++ written_fields 0 c.args.whole.now.fields c.args.whole.now.size =
    ap (λ (t : List ℕ). c.loop-field.text.items ++ t) (sym last) ∙ c.loop-field.invariant.text ∙ ap (λ (t : List ℕ). c.args.text.now.items ++ t) (ap (λ (fs : Fields). written_fields 0 fs c.size-size.result) fields ∙ ap (written_fields 0 c.args.whole.now.fields) c.size-size.ensures.value) in
    rw (← all) c.push_pad-2.ensures
