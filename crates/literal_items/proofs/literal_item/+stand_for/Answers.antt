use Rattle.std.proofs.Common.{sym, ap, ◌∙◌, arith}
use Rattle.literal_items.proofs.Words.{drop_all, total, listed, weight, weight-one, seen_fields, all_values, stand_for, passes}
use Rattle.std.proofs.lemmas.Bool.{false_from_ne_true}
use Rattle.literal_items.proofs.Fields.{IsTurn, turn_fails, turn_passes, stand_for-record, stand_for-length}
use Rattle.literal_items.proofs.literal_item.+stand_for.Goals as goal

pub stands_for-stand_for-requires : goal.stands_for-stand_for-requires
stands_for-stand_for-requires t c =
    let all = ap total (seen_fields c.fields.result.now c.in-Record-Record.structure.fields c.fields.ensures.value) in
    let one = ap weight c.in-Record-Record.is-0 in
    (omega (arith, c.decreases, all, one), tt)

pub stands_for-returns-in-Record-Record : goal.stands_for-returns-in-Record-Record
stands_for-returns-in-Record-Record t c =
    c.stand_for.ensures
    ∙ stand_for-record (passes c.args.test) c.args.descr.now c.args.literal.now c.in-Record-Record.structure c.in-Record-Record.values c.fields.result.now c.as_slice.result.now c.in-Record-Record.is-0 c.in-Record-Record.is-1 c.fields.ensures.value c.as_slice.ensures

pub stand_for-returns-then-fields-literals : goal.stand_for-returns-then-fields-literals
stand_for-returns-then-fields-literals t c =
    sym (false_from_ne_true (stand_for (passes c.args.test) (listed c.args.fields.now) (all_values c.args.literals.now)) (λ can. c.if-fields-literals.true (stand_for-length (passes c.args.test) c.args.fields.now c.args.literals.now can)))

pub stand_for-stands_for-requires : goal.stand_for-stands_for-requires
stand_for-stands_for-requires t c =
    let one = weight-one c.args.fields.now c.loop-k.k c.index-fields-k.result c.loop-k-test.true c.index-fields-k.is in
    (omega (arith, c.decreases, one), tt)

pub stand_for-returns-then-not-stands_for : goal.stand_for-returns-then-not-stands_for
stand_for-returns-then-not-stands_for t c =
    let turn : IsTurn c.args.fields.now c.args.literals.now c.loop-k.k c.index-fields-k.result c.index-literals-k.result = record { low = c.loop-k-test.true; near = omega (arith, c.loop-k-test.true, c.if-fields-literals.false); is = c.index-fields-k.is; there = c.index-literals-k.is } in
    sym (sym c.loop-k.invariant ∙ turn_fails (passes c.args.test) c.args.fields.now c.args.literals.now c.loop-k.k c.index-fields-k.result c.index-literals-k.result turn (sym c.stands_for.ensures ∙ c.if-not-stands_for.true))

pub stand_for-loop-k-preserved : goal.stand_for-loop-k-preserved
stand_for-loop-k-preserved t c =
    let turn : IsTurn c.args.fields.now c.args.literals.now c.loop-k.k c.index-fields-k.result c.index-literals-k.result = record { low = c.loop-k-test.true; near = omega (arith, c.loop-k-test.true, c.if-fields-literals.false); is = c.index-fields-k.is; there = c.index-literals-k.is } in
    turn_passes (passes c.args.test) c.args.fields.now c.args.literals.now c.loop-k.k c.index-fields-k.result c.index-literals-k.result turn (sym c.stands_for.ensures ∙ c.if-not-stands_for.false) ∙ c.loop-k.invariant

pub stand_for-returns : goal.stand_for-returns
stand_for-returns t c =
    let fields = drop_all c.loop-k.k c.args.fields.now c.loop-k-test.false in
    let literals = drop_all c.loop-k.k c.args.literals.now (omega (arith, c.loop-k-test.false, c.if-fields-literals.false)) in
    sym (sym c.loop-k.invariant ∙ (λ i. stand_for (passes c.args.test) (listed (fields i)) (all_values (literals i))))
