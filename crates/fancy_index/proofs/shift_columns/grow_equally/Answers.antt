use Rattle.std.proofs.Common.{◌≡◌, ◌+◌, ◌-◌, get_or, sym, subst, arith}
use Rattle.fancy_index.proofs.Words.{moved_offset, IsMoved, HaveGrownFrom}
use Rattle.fancy_index.proofs.SumLaws.{grown_more}
use Rattle.fancy_index.proofs.shift_columns.grow_equally.Goals as goal
use Rattle.fancy_index.proofs.shift_columns.grow_equally.Goals.{In-loop-k}

can : (c : In-loop-k) → IsMoved c.args.start (get_or c.loop-k.shifts (c.args.at + c.loop-k.k) 0) c.args.offset
can c =
    let at = c.args.at + c.loop-k.k in
    subst (λ x. IsMoved c.args.start x c.args.offset) (sym (c.loop-k.invariant.left at (omega arith))) (c.requires.can at (omega arith) (omega (arith, c.loop-k-test.true)))

pub overflow_add-shifts-in-loop-k : goal.overflow_add-shifts-in-loop-k
overflow_add-shifts-in-loop-k c = record { fits = omega (arith, (can (goal.at.overflow_add-shifts-in-loop-k c).In-loop-k).below, c.requires.start) }

pub overflow_sub-shifts : goal.overflow_sub-shifts
overflow_sub-shifts c = (can (goal.at.overflow_sub-shifts c).In-loop-k).from

pub loop-k-preserved : goal.loop-k-preserved
loop-k-preserved c =
    let at = c.args.at + c.loop-k.k in
    let is : get_or c.loop-k.shifts at 0 + c.args.offset - c.args.start ≡ moved_offset c.args.start (get_or c.args.shifts.now at 0) c.args.offset = λ i. c.loop-k.invariant.left at (omega arith) i + c.args.offset - c.args.start in
    let more : at + 1 ≡ c.args.at + (c.loop-k.k + 1) = omega arith in
    subst (HaveGrownFrom _ _ _ _ _) more (grown_more _ _ _ c.args.shifts.now c.loop-k.shifts at _ (omega arith) (omega (arith, c.requires.many, c.loop-k-test.true)) is c.loop-k.invariant)
