use Rattle.std.proofs.Common.{◌≡◌, sym, ap, ◌∙◌, arith}
use Rattle.elementwise.proofs.Words.{total, weight, weight-one, seen_fields, Field, can_cast_field}
use Rattle.elementwise.proofs.FieldLaws.{IsTurn, turn_fails, turn_passes, none_left, records, uneven}
use Rattle.elementwise.proofs.rules.castable.+can_cast_fields.Goals as goal

pub can_cast_field-can_cast_fields-requires : goal.can_cast_field-can_cast_fields-requires
can_cast_field-can_cast_fields-requires t c =
    let all = ap total (seen_fields c.fields.result.now c.in-Record-Record.from.fields c.fields.ensures.value) in
    let one = ap weight c.in-Record-Record.is-0 in
    (omega (arith, c.decreases, all, one), tt)

pub can_cast_field-returns-in-Record-Record : goal.can_cast_field-returns-in-Record-Record
can_cast_field-returns-in-Record-Record t c =
    c.can_cast_fields.ensures
    ∙ records c.args.from.now c.args.to.now c.in-Record-Record.from c.in-Record-Record.to c.fields.result.now c.fields-in-Record-Record.result.now c.in-Record-Record.is-0 c.in-Record-Record.is-1 c.fields.ensures.value c.fields-in-Record-Record.ensures.value

pub can_cast_fields-returns-then-from-to : goal.can_cast_fields-returns-then-from-to
can_cast_fields-returns-then-from-to t c = sym (uneven c.args.from.now c.args.to.now c.if-from-to.true)

pub can_cast_fields-can_cast_field-requires : goal.can_cast_fields-can_cast_field-requires
can_cast_fields-can_cast_field-requires t c =
    let one = weight-one c.args.from.now c.loop-k.k c.index-from-k.result c.loop-k-test.true c.index-from-k.is in
    (omega (arith, c.decreases, one), tt)

pub can_cast_fields-returns-then-not-can_cast_field : goal.can_cast_fields-returns-then-not-can_cast_field
can_cast_fields-returns-then-not-can_cast_field t c =
    let turn : IsTurn c.args.from.now c.args.to.now c.loop-k.k c.index-from-k.result c.index-to-k.result = record { low = c.loop-k-test.true; near = omega (arith, c.loop-k-test.true, c.if-from-to.false); is = c.index-from-k.is; there = c.index-to-k.is } in
    let there : can_cast_field c.index-from-k.result.descr c.index-to-k.result.descr ≡ c.can_cast_field.result = ap (λ (other : Field). can_cast_field c.index-from-k.result.descr other.descr) c.index-to-k.is ∙ sym c.can_cast_field.ensures in
    sym (sym c.loop-k.invariant ∙ turn_fails c.args.from.now c.args.to.now c.loop-k.k c.index-from-k.result c.index-to-k.result turn (there ∙ c.if-not-can_cast_field.true))

pub can_cast_fields-loop-k-preserved : goal.can_cast_fields-loop-k-preserved
can_cast_fields-loop-k-preserved t c =
    let turn : IsTurn c.args.from.now c.args.to.now c.loop-k.k c.index-from-k.result c.index-to-k.result = record { low = c.loop-k-test.true; near = omega (arith, c.loop-k-test.true, c.if-from-to.false); is = c.index-from-k.is; there = c.index-to-k.is } in
    let there : can_cast_field c.index-from-k.result.descr c.index-to-k.result.descr ≡ c.can_cast_field.result = ap (λ (other : Field). can_cast_field c.index-from-k.result.descr other.descr) c.index-to-k.is ∙ sym c.can_cast_field.ensures in
    turn_passes c.args.from.now c.args.to.now c.loop-k.k c.index-from-k.result c.index-to-k.result turn (there ∙ c.if-not-can_cast_field.false) ∙ c.loop-k.invariant

pub can_cast_fields-returns : goal.can_cast_fields-returns
can_cast_fields-returns t c =
    sym (sym c.loop-k.invariant ∙ none_left c.args.from.now c.args.to.now c.loop-k.k c.loop-k-test.false (omega (arith, c.loop-k-test.false, c.if-from-to.false)))
