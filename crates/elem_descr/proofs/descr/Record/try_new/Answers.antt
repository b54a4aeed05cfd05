use Rattle.std.proofs.Common.{ap, ◌∙◌, List, append_assoc, arith, rules}
use Rattle.elem_descr.proofs.Words.{Field, InOrder, listed, leaves_from, rest_at, field_within}
use Rattle.elem_descr.proofs.FieldLaws.{leaves_before}
use Rattle.elem_descr.proofs.descr.Record.try_new.Goals as goal

pub push_field-requires : goal.push_field-requires
push_field-requires c =
    let items = c.as_slice-field-items.result.now in
    let order : InOrder 0 (listed items) c.args.size = rw c.as_slice-field-items.ensures.value c.requires.in_order in
    let ends = field_within 0 items c.args.size c.loop-field.field-index c.field-item.result order c.loop-field-test.true c.field-item.is in
    record { small = omega (arith, ends, c.requires.small) }

pub loop-field-preserved : goal.loop-field-preserved
loop-field-preserved c =
    let here = rest_at c.as_slice-field-items.result.now c.field-item.result c.loop-field.field-index c.loop-field-test.true c.field-item.is in
    let split = ap (λ (rest : List Field). leaves_from 0 (listed rest)) here ∙ leaves_before c.field-item.result _ in
    search (rules, split, c.loop-field.invariant, c.in_ok-push_field.ensures, append_assoc)
