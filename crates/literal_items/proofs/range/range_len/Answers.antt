use Rattle.std.proofs.Common.{◌≡◌, ◌≢◌, pos, sym, ap, ◌∙◌, arith, rules, unsigned_abs, FitsSigned}
use Rattle.literal_items.proofs.Words.{w128, cast_unsigned, div_ceil, ints, to_z-of_z, numbers_from, range_count}
use Rattle.literal_items.proofs.Stepping.{range_length-zero, range_length-large, range_length-ok, count-divided, numbers-counted, counted_before, counted_fits}
use Rattle.literal_items.proofs.range.range_len.Goals as goal

pub returns-then-step-eq0-clause-value : goal.returns-then-step-eq0-clause-value
returns-then-step-eq0-clause-value c =
    let fits : FitsSigned w128 c.args.step.now = search rules in
    let none : c.args.step.now ≡ pos 0 = omega (arith, ints, c.if-step-eq0.true) in
    sym (range_length-zero c.args.start.now c.args.stop.now c.args.step.now none)

pub returns-then-count-gt-MAX_NUMBERS-clause-value : goal.returns-then-count-gt-MAX_NUMBERS-clause-value
returns-then-count-gt-MAX_NUMBERS-clause-value c =
    let fits : FitsSigned w128 c.args.step.now = search rules in
    let some : c.args.step.now ≢ pos 0 = λ same. c.if-step-eq0.false (ap (cast_unsigned w128) same) in
    let abs : c.unsigned_abs.result ≡ unsigned_abs c.args.step.now = simp to_z-of_z at c.unsigned_abs.ensures.value in
    let count : c.div_ceil-count.result ≡ range_count c.args.start.now c.args.stop.now c.args.step.now = c.div_ceil-count.ensures ∙ ap (div_ceil c.distance.result) abs ∙ sym (count-divided c.distance.result c.args.start.now c.args.stop.now c.args.step.now some c.distance.ensures.gap) in
    sym (range_length-large c.args.start.now c.args.stop.now c.args.step.now c.div_ceil-count.result some count c.if-count-gt-MAX_NUMBERS.true)

pub returns : goal.returns
returns c =
    let fits : FitsSigned w128 c.args.step.now = search rules in
    let some : c.args.step.now ≢ pos 0 = λ same. c.if-step-eq0.false (ap (cast_unsigned w128) same) in
    let abs : c.unsigned_abs.result ≡ unsigned_abs c.args.step.now = simp to_z-of_z at c.unsigned_abs.ensures.value in
    let count : c.div_ceil-count.result ≡ range_count c.args.start.now c.args.stop.now c.args.step.now = c.div_ceil-count.ensures ∙ ap (div_ceil c.distance.result) abs ∙ sym (count-divided c.distance.result c.args.start.now c.args.stop.now c.args.step.now some c.distance.ensures.gap) in
    record {
      value = sym (range_length-ok c.args.start.now c.args.stop.now c.args.step.now c.div_ceil-count.result some count c.if-count-gt-MAX_NUMBERS.false);
      count = count;
      numbers = numbers-counted c.distance.result c.args.start.now c.args.stop.now c.args.step.now some c.distance.ensures.gap ∙ ap (numbers_from c.args.start.now c.args.step.now) (sym count);
      few = c.if-count-gt-MAX_NUMBERS.false;
      before = λ k.
          let each = counted_before c.distance.result c.args.start.now c.args.stop.now c.args.step.now some c.distance.ensures.gap k in
          (λ low. each.0 (omega arith), λ before. let low = each.1 before in omega arith);
      fits = λ k low. counted_fits c.distance.result c.args.start.now c.args.stop.now c.args.step.now some c.distance.ensures.gap c.distance.ensures.start_fits c.distance.ensures.stop_fits k (omega arith);
    }
