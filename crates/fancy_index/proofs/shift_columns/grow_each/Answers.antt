use Rattle.std.proofs.Common.{◌≡◌, ◌+◌, ◌-◌, ◌<◌, ◌≤◌, length, get_or, sym, ap, subst, ◌∙◌, arith}
use Rattle.fancy_index.proofs.Words.{ints, max_bytes, run_offsets, length-run_offsets, moved_offset, IsMoved, HaveGrownFrom, number_along}
use Rattle.fancy_index.proofs.RunLaws.{first-low, steps-low, steps-high, lies-there}
use Rattle.fancy_index.proofs.SumLaws.{grown_more}
use Rattle.fancy_index.proofs.shift_columns.grow_each.Goals as goal
use Rattle.fancy_index.proofs.shift_columns.grow_each.Goals.{After-offset_after}

pub offset_after-requires-clause-start : goal.offset_after-requires-clause-start
offset_after-requires-clause-start c = first-low c.args.places c.requires.lies c.loop-k.k c.loop-k-test.true

pub offset_after-requires-clause-steps : goal.offset_after-requires-clause-steps
offset_after-requires-clause-steps c = omega (arith, c.requires.few, c.loop-k-test.true)

pub offset_after-requires-clause-low : goal.offset_after-requires-clause-low
offset_after-requires-clause-low c = steps-low c.args.places c.requires.lies c.loop-k.k c.loop-k-test.true

pub offset_after-requires-clause-high : goal.offset_after-requires-clause-high
offset_after-requires-clause-high c = steps-high c.args.places c.requires.lies c.loop-k.k c.loop-k-test.true

there : (c : After-offset_after) → c.offset_after.result ≡ get_or (run_offsets c.args.places) c.loop-k.k 0
there c = lies-there c.args.places c.requires.lies c.loop-k.k c.loop-k-test.true c.offset_after.result c.offset_after.ensures

pub offset_bounds-offsets-offset_after : goal.offset_bounds-offsets-offset_after
offset_bounds-offsets-offset_after c =
    let small : c.offset_after.result ≤ max_bytes = omega (arith, ints, c.offset_after.ensures, steps-high c.args.places c.requires.lies c.loop-k.k c.loop-k-test.true) in
    record { fits = omega (arith, small) }

pub bounds-offsets-offset_after : goal.bounds-offsets-offset_after
bounds-offsets-offset_after c =
    subst (λ n. n < length c.args.offsets.now) (sym (there (goal.at.bounds-offsets-offset_after c).After-offset_after)) (c.requires.places c.loop-k.k 0 (omega (arith, c.loop-k-test.true, length-run_offsets c.args.places)))

number : (c : After-offset_after) → get_or c.args.offsets.now c.offset_after.result 0 ≡ number_along c.args.offsets.now c.args.places c.args.at (c.args.at + c.loop-k.k)
number c =
    let same : c.loop-k.k ≡ c.args.at + c.loop-k.k - c.args.at = omega arith in
    ap (λ k. get_or c.args.offsets.now k 0) (there c ∙ ap (λ k. get_or (run_offsets c.args.places) k 0) same)

can : (c : After-offset_after) → IsMoved c.args.start (get_or c.loop-k.shifts (c.args.at + c.loop-k.k) 0) (get_or c.args.offsets.now c.offset_after.result 0)
can c =
    let at = c.args.at + c.loop-k.k in
    subst (λ x. IsMoved c.args.start x (get_or c.args.offsets.now c.offset_after.result 0)) (sym (c.loop-k.invariant.left at (omega arith)))
    (subst (λ x. IsMoved c.args.start (get_or c.args.shifts.now at 0) x) (sym (number c)) (c.requires.can at (omega arith) (omega (arith, c.loop-k-test.true))))

pub overflow_add-shifts-in-loop-k : goal.overflow_add-shifts-in-loop-k
overflow_add-shifts-in-loop-k c = record { fits = omega (arith, (can (goal.at.overflow_add-shifts-in-loop-k c).After-offset_after).below, c.requires.start) }

pub overflow_sub-shifts : goal.overflow_sub-shifts
overflow_sub-shifts c = (can (goal.at.overflow_sub-shifts c).After-offset_after).from

pub loop-k-preserved : goal.loop-k-preserved
loop-k-preserved c =
    let at = c.args.at + c.loop-k.k in
    let now = (goal.at.loop-k-preserved c).After-offset_after in
    let is : get_or c.loop-k.shifts at 0 + get_or c.args.offsets.now c.offset_after.result 0 - c.args.start ≡ moved_offset c.args.start (get_or c.args.shifts.now at 0) (number_along c.args.offsets.now c.args.places c.args.at at) = λ i. c.loop-k.invariant.left at (omega arith) i + number now i - c.args.start in
    let more : at + 1 ≡ c.args.at + (c.loop-k.k + 1) = omega arith in
    subst (HaveGrownFrom _ _ _ _ _) more (grown_more _ _ _ c.args.shifts.now c.loop-k.shifts at _ (omega arith) (omega (arith, c.requires.many, c.loop-k-test.true)) is c.loop-k.invariant)
