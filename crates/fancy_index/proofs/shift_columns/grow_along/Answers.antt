use Rattle.std.proofs.Common.{◌<◌, [], ◌∷◌, All, length, get_or, sym, ap, subst, ◌∙◌, arith, length-drop}
use Rattle.fancy_index.proofs.Words.{flat_map, All-head, All-rest, Run, LieWithin, max_bytes, offsets, length-offsets, run_offsets, IsMoved, number_along}
use Rattle.fancy_index.proofs.SumLaws.{grown_all, grown_run, NextRun, next_run, run_here}
use Rattle.fancy_index.proofs.shift_columns.grow_along.Goals as goal
use Rattle.fancy_index.proofs.shift_columns.grow_along.Goals.{In-Some}

next : (c : In-Some) → NextRun (offsets c.args.places.now) c.loop-run.at c.in-Some.run' (flat_map run_offsets c.next.new.self)
next c = next_run (offsets c.args.places.now) c.loop-run.at c.in-Some.run' _ _ c.loop-run.invariant.low c.loop-run.invariant.left c.in-Some.ensures.steps

abbrev lies-within : Run → Type 0
lies-within run = LieWithin (run.count ∷ []) (run.step ∷ []) run.offset max_bytes 1

pub grow_run-requires : goal.grow_run-requires
grow_run-requires c =
    let it = next (goal.at.grow_run-requires c).In-Some in
    record {
      start = c.requires.start;
      few = omega (arith, it.within, length-offsets c.args.places.now, c.items-items.ensures.value, c.items-items.ensures.limit);
      lies = All-head lies-within _ _ (subst (All lies-within) c.in-Some.ensures.steps c.loop-run.invariant.lie);
      many = omega (arith, it.within, c.requires.many, c.loop-run.invariant.grown.len);
      places = run_here (λ place. place < length c.args.numbers.now) _ _ _ _ it c.requires.places;
      can = λ k above below.
          subst (λ x. IsMoved c.args.start x (number_along c.args.numbers.now c.in-Some.run' c.loop-run.at k)) (sym (c.loop-run.invariant.grown.left k above))
          (subst (λ p. IsMoved c.args.start (get_or c.args.shifts.now k 0) (get_or c.args.numbers.now p 0)) (sym (it.entry k above below)) (c.requires.can k (omega (arith, it.within, below, c.requires.many))));
    }

pub overflow_add-at : goal.overflow_add-at
overflow_add-at c = record { fits = omega (arith, (next (goal.at.overflow_add-at c).In-Some).within, length-offsets c.args.places.now, c.items-items.ensures.value, c.items-items.ensures.limit) }

pub loop-run-preserved : goal.loop-run-preserved
loop-run-preserved c =
    let it = next (goal.at.loop-run-preserved c).In-Some in
    record {
      lie = All-rest lies-within _ _ _ c.in-Some.ensures.steps c.loop-run.invariant.lie;
      low = it.within;
      left = it.later;
      grown = grown_run _ _ _ c.args.shifts.now c.loop-run.shifts c.grow_run.new.shifts c.loop-run.at _ (omega arith) (λ k above below. ap (λ p. get_or c.args.numbers.now p 0) (it.entry k above below)) c.loop-run.invariant.grown c.grow_run.ensures;
    }

pub returns : goal.returns
returns c =
    let none = ap length (sym c.loop-run.invariant.left ∙ ap (flat_map run_offsets) c.in-None.ensures.steps.0) in
    grown_all _ _ _ _ c.loop-run.at (omega (arith, c.requires.many, none, length-drop c.loop-run.at (offsets c.args.places.now))) c.loop-run.invariant.grown
