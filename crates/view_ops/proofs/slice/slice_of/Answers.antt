use Rattle.std.proofs.Common.{◌≡◌, ◌<◌, ◌∙◌, ap, sym, pos, unsigned_abs, to_z, of_z, FitsSigned}
use Rattle.view_ops.proofs.Words.{w128, to_z-of_z, Progression, run_numbers}
use Rattle.view_ops.proofs.SliceLaws.{IsSpan, slice_indices-zero, slice_indices-list, stepped-run, within-run, span_first}
use Rattle.view_ops.proofs.slice.slice_of.Goals as goal

pub returns-then-step-eq0-clause-value : goal.returns-then-step-eq0-clause-value
returns-then-step-eq0-clause-value c =
    let size : FitsSigned w128 c.unwrap_or-step.result = record { sfits = c.unwrap_or-step.type_inv } in
    slice_indices-zero c.args.n c.args.start c.args.stop c.args.step c.unwrap_or-step.result c.unwrap_or-step.ensures (sym (to_z-of_z w128 c.unwrap_or-step.result size) ∙ ap (to_z w128) c.if-step-eq0.true)

span : (c : goal.After-max-first) → IsSpan c.args.n c.gap.result c.steps_below-count.result (to_z w128 (of_z w128 c.start_of-start.result)) (to_z w128 (of_z w128 c.stop_of-stop.result)) (to_z w128 (of_z w128 c.unwrap_or-step.result))
span c =
    let start = to_z-of_z w128 c.start_of-start.result (record { sfits = c.start_of-start.type_inv }) in
    let stop = to_z-of_z w128 c.stop_of-stop.result (record { sfits = c.stop_of-stop.type_inv }) in
    record {
      some = λ none. c.if-step-eq0.false (ap (of_z w128) (sym (to_z-of_z w128 c.unwrap_or-step.result (record { sfits = c.unwrap_or-step.type_inv })) ∙ none));
      start_low = rw start c.start_of-start.ensures.low;
      start_high = rw start c.start_of-start.ensures.high;
      stop_low = rw stop c.stop_of-stop.ensures.low;
      stop_high = rw stop c.stop_of-stop.ensures.high;
      back = c.gap.ensures.back;
      forth = c.gap.ensures.forth;
      steps = c.steps_below-count.ensures;
    }

run : (c : goal.After-max-first) → Progression
run c = record { first = unsigned_abs (to_z w128 (of_z w128 c.max-first.result)); step = to_z w128 (of_z w128 c.unwrap_or-step.result); count = c.steps_below-count.result }

first : (c : goal.After-max-first) → 0 < c.steps_below-count.result → pos (unsigned_abs (to_z w128 (of_z w128 c.max-first.result))) ≡ to_z w128 (of_z w128 c.start_of-start.result)
first c some =
    let max = to_z-of_z w128 c.max-first.result (record { sfits = c.max-first.type_inv }) in
    span_first c.args.n c.gap.result c.steps_below-count.result (to_z w128 (of_z w128 c.start_of-start.result)) (to_z w128 (of_z w128 c.stop_of-stop.result)) (to_z w128 (of_z w128 c.unwrap_or-step.result)) (to_z w128 (of_z w128 c.max-first.result)) (span c) (max ∙ c.max-first.ensures.value) some

pub returns-clause-value : goal.returns-clause-value
unfolding run
returns-clause-value c =
    let step = to_z-of_z w128 c.unwrap_or-step.result (record { sfits = c.unwrap_or-step.type_inv }) in
    let start = to_z-of_z w128 c.start_of-start.result (record { sfits = c.start_of-start.type_inv }) in
    let stop = to_z-of_z w128 c.stop_of-stop.result (record { sfits = c.stop_of-stop.type_inv }) in
    let list = stepped-run c.args.n c.gap.result (to_z w128 (of_z w128 c.start_of-start.result)) (to_z w128 (of_z w128 c.stop_of-stop.result)) (run c) (span c) (first c) in
    slice_indices-list c.args.n c.args.start c.args.stop c.args.step (to_z w128 (of_z w128 c.start_of-start.result)) (to_z w128 (of_z w128 c.stop_of-stop.result)) (to_z w128 (of_z w128 c.unwrap_or-step.result)) (run_numbers (run c)) (step ∙ c.unwrap_or-step.ensures) (span c).some (start ∙ c.start_of-start.ensures.value) (stop ∙ c.stop_of-stop.ensures.value) list

pub returns-clause-within : goal.returns-clause-within
unfolding run
returns-clause-within c =
    within-run c.args.n c.gap.result (to_z w128 (of_z w128 c.start_of-start.result)) (to_z w128 (of_z w128 c.stop_of-stop.result)) (run c) (span c) (first c)
