use Rattle.std.proofs.Common.{get_or, sym, subst, arith}
use Rattle.fancy_index.proofs.Words.{IsMoved}
use Rattle.fancy_index.proofs.shift_columns.grow.Goals as goal
use Rattle.fancy_index.proofs.shift_columns.grow.Goals.{In-loop-k}

can : (c : In-loop-k) → IsMoved c.args.start (get_or c.loop-k.shifts c.loop-k.k 0) (get_or c.args.offsets.now c.loop-k.k 0)
can c =
    subst (λ x. IsMoved c.args.start x (get_or c.args.offsets.now c.loop-k.k 0)) (sym (c.loop-k.invariant.left c.loop-k.k (omega arith))) (c.requires.can c.loop-k.k (omega (arith, c.loop-k-test.true, c.loop-k.invariant.len)))

pub overflow_add-shifts : goal.overflow_add-shifts
overflow_add-shifts c = record { fits = omega (arith, (can (goal.at.overflow_add-shifts c).In-loop-k).below, c.requires.start) }

pub overflow_sub-shifts : goal.overflow_sub-shifts
overflow_sub-shifts c = (can (goal.at.overflow_sub-shifts c).In-loop-k).from
