use Rattle.std.proofs.Common.{◌≡◌, ◌++◌, ℕ, List, refl, ap, ◌∙◌, arith}
use Rattle.npy_format.proofs.Words.{Fields, listed, listed-fields_of, field_within, weight-one, first_field, opened_entry, entry_separator, in_brackets, entries}
use Rattle.npy_format.proofs.WrittenEntries.{one_written, list_written}
use Rattle.npy_format.proofs.header_text.+written.Goals as goal

pub push_record-loop-field-init : goal.push_record-loop-field-init
push_record-loop-field-init t c =
    record { text = rw c.in_ok-push.ensures.items refl; in_order = rw (c.fields-field-items.ensures.value, listed-fields_of c.args.whole.now.fields, c.size-size.ensures.value) c.size-size.ensures.legal.in_order }

pub push_record-push_descr-requires : goal.push_record-push_descr-requires
push_record-push_descr-requires t c =
    let fields : listed c.fields-field-items.result.now ≡ c.args.whole.now.fields = ap listed c.fields-field-items.ensures.value ∙ listed-fields_of c.args.whole.now.fields in
    let less = rw fields at (weight-one c.fields-field-items.result.now c.loop-field.field-index c.field-item.result c.loop-field-test.true c.field-item.is) in
    (omega (arith, less, c.decreases), tt)

pub push_record-overflow_add-end : goal.push_record-overflow_add-end
push_record-overflow_add-end t c =
    let fields : listed c.fields-field-items.result.now ≡ c.args.whole.now.fields = ap listed c.fields-field-items.ensures.value ∙ listed-fields_of c.args.whole.now.fields in
    let ends = field_within 0 c.fields-field-items.result.now c.args.whole.now.size c.loop-field.field-index c.field-item.result (rw fields c.size-size.ensures.legal.in_order) c.loop-field-test.true c.field-item.is in
    omega (arith, ends, c.size.ensures.value, c.size-size.ensures)

pub push_record-loop-field-preserved : goal.push_record-loop-field-preserved
push_record-loop-field-preserved t c =
    let items = c.fields-field-items.result.now in
    let parts = first_field c.loop-field.end c.size-size.result items c.field-item.result c.loop-field.field-index c.loop-field-test.true c.field-item.is c.loop-field.invariant.in_order in
    let name = c.as_slice.ensures in
    let more = one_written c.loop-field.end c.size-size.result items c.field-item.result c.loop-field.field-index c.loop-field.is_first c.in_ok-next.next c.loop-field.text.items c.push_gap.new.text.items c.push_name.new.text.items c.push_descr.new.text.items _ c.loop-field-test.true c.field-item.is c.in_ok-next.ensures.written c.in_ok-next.ensures.next (c.in_ok-push_name.ensures ∙ ap (λ (n : List ℕ). c.push_gap.new.text.items ++ (entry_separator c.in_ok-next.next ++ opened_entry n)) name) c.in_ok-push_descr.ensures c.loop-field.invariant.text in
    record { text = rw (c.in_ok-push-2.ensures.items, c.size.ensures.value) more; in_order = rw c.size.ensures.value parts.2 }

pub push_record-returns : goal.push_record-returns
push_record-returns t c =
    let items = c.fields-field-items.result.now in
    let fields : listed items ≡ c.args.whole.now.fields = ap listed c.fields-field-items.ensures.value ∙ listed-fields_of c.args.whole.now.fields in
    let all = list_written c.loop-field.end c.size-size.result items c.loop-field.field-index c.loop-field.is_first c.args.text.now.items c.loop-field.text.items c.push_gap-2.new.text.items c.loop-field-test.false c.in_ok-push_gap.ensures.written c.loop-field.invariant.text in
    rw c.in_ok-push-3.ensures.items (all ∙ ap (λ (fs : Fields). c.args.text.now.items ++ in_brackets (entries 0 fs c.size-size.result)) fields ∙ ap (λ (n : ℕ). c.args.text.now.items ++ in_brackets (entries 0 c.args.whole.now.fields n)) c.size-size.ensures.value)
