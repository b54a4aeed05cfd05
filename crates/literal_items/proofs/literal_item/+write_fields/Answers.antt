use Rattle.std.proofs.Common.{◌+◌, drop, sym, ap, ◌∙◌, arith, rules, refl}
use Rattle.literal_items.proofs.Words.{drop_all, total, item_size, leaves_from, weight, weight-one, seen_fields, all_values, is_castable, can_hold, field_values, put_leaves}
use Rattle.literal_items.proofs.Fields.{IsTurn, turn_passes, turn_passed, stand_for-literals, stand_for-length, turn_within, put_record, put_fields, put_fields-at}
use Rattle.literal_items.proofs.literal_item.+write_fields.Goals as goal

pub write_field-write_fields-requires : goal.write_field-write_fields-requires
write_field-write_fields-requires t c =
    let one = ap weight c.in-Record-Record.is-0 in
    let long = ap item_size c.in-Record-Record.is-0 in
    let castable = stand_for-literals is_castable c.args.descr.now c.args.literal.now c.in-Record-Record.structure c.in-Record-Record.values c.as_slice.result.now c.in-Record-Record.is-0 c.in-Record-Record.is-1 c.as_slice.ensures ∙ c.requires.castable in
    (omega (arith, c.decreases, one), (castable, omega (arith, long, c.requires.within)))

pub write_field-returns-in-Record-Record : goal.write_field-returns-in-Record-Record
write_field-returns-in-Record-Record t c =
    c.write_fields.ensures.written
    ∙ put_record c.args.item.now c.args.at c.args.descr.now c.args.literal.now c.in-Record-Record.structure c.in-Record-Record.values c.as_slice.result.now c.in-Record-Record.is-0 c.in-Record-Record.is-1 c.as_slice.ensures

pub write_fields-loop-k-init : goal.write_fields-loop-k-init
write_fields-loop-k-init t c = record {
  castable = ap (λ fields. can_hold fields (all_values c.args.literals.now)) (seen_fields c.fields-fields.result.now c.args.structure.now.fields c.fields-fields.ensures.value) ∙ c.requires.castable;
  left = refl;
}

pub write_fields-overflow_add-from : goal.write_fields-overflow_add-from
write_fields-overflow_add-from t c =
    let within = turn_within c.args.structure.now c.fields-fields.result.now c.loop-k.k c.index-fields-k.result c.fields-fields.ensures.legal c.fields-fields.ensures.value c.loop-k-test.true c.index-fields-k.is in
    let there = c.requires.within in
    search rules

pub write_fields-write_field-requires : goal.write_fields-write_field-requires
write_fields-write_field-requires t c =
    let castable = ap (λ fields. can_hold fields (all_values c.args.literals.now)) (seen_fields c.fields-fields.result.now c.args.structure.now.fields c.fields-fields.ensures.value) ∙ c.requires.castable in
    let turn : IsTurn c.fields-fields.result.now c.args.literals.now c.loop-k.k c.index-fields-k.result c.index-literals-k.result = record { low = c.loop-k-test.true; near = omega (arith, c.loop-k-test.true, stand_for-length is_castable c.fields-fields.result.now c.args.literals.now castable); is = c.index-fields-k.is; there = c.index-literals-k.is } in
    let within = turn_within c.args.structure.now c.fields-fields.result.now c.loop-k.k c.index-fields-k.result c.fields-fields.ensures.legal c.fields-fields.ensures.value c.loop-k-test.true c.index-fields-k.is in
    let one = weight-one c.fields-fields.result.now c.loop-k.k c.index-fields-k.result c.loop-k-test.true c.index-fields-k.is in
    let all = ap total (seen_fields c.fields-fields.result.now c.args.structure.now.fields c.fields-fields.ensures.value) in
    (omega (arith, c.decreases, one, all), (turn_passed is_castable c.fields-fields.result.now c.args.literals.now c.loop-k.k c.index-fields-k.result c.index-literals-k.result turn c.loop-k.invariant.castable, omega (arith, within, c.requires.within, c.loop-k.auto.item)))

pub write_fields-loop-k-preserved : goal.write_fields-loop-k-preserved
write_fields-loop-k-preserved t c =
    let castable = ap (λ fields. can_hold fields (all_values c.args.literals.now)) (seen_fields c.fields-fields.result.now c.args.structure.now.fields c.fields-fields.ensures.value) ∙ c.requires.castable in
    let turn : IsTurn c.fields-fields.result.now c.args.literals.now c.loop-k.k c.index-fields-k.result c.index-literals-k.result = record { low = c.loop-k-test.true; near = omega (arith, c.loop-k-test.true, stand_for-length is_castable c.fields-fields.result.now c.args.literals.now castable); is = c.index-fields-k.is; there = c.index-literals-k.is } in
    let can = turn_passed is_castable c.fields-fields.result.now c.args.literals.now c.loop-k.k c.index-fields-k.result c.index-literals-k.result turn c.loop-k.invariant.castable in
    record {
      castable = turn_passes is_castable c.fields-fields.result.now c.args.literals.now c.loop-k.k c.index-fields-k.result c.index-literals-k.result turn can ∙ c.loop-k.invariant.castable;
      left = ap (λ item. put_fields item c.args.from (drop (c.loop-k.k + 1) c.fields-fields.result.now) (drop (c.loop-k.k + 1) c.args.literals.now)) c.write_field.ensures
          ∙ put_fields-at c.loop-k.item c.args.from c.fields-fields.result.now c.args.literals.now c.loop-k.k c.index-fields-k.result c.index-literals-k.result turn can
          ∙ c.loop-k.invariant.left;
    }

pub write_fields-returns-clause-written : goal.write_fields-returns-clause-written
write_fields-returns-clause-written t c =
    sym (ap (λ left. put_fields c.loop-k.item c.args.from left (drop c.loop-k.k c.args.literals.now)) (drop_all c.loop-k.k c.fields-fields.result.now c.loop-k-test.false))
    ∙ c.loop-k.invariant.left
    ∙ ap (λ fields. put_leaves c.args.item.now (leaves_from c.args.from fields) (field_values fields (all_values c.args.literals.now))) (seen_fields c.fields-fields.result.now c.args.structure.now.fields c.fields-fields.ensures.value)
