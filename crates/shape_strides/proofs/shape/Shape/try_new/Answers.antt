use Rattle.std.proofs.Common.{inr, sym, ap, ◌∙◌, arith, Ok}
use Rattle.shape_strides.proofs.Words.{shape_of-many, shape_of-long, shape_of-large, shape_of-ok}
use Rattle.shape_strides.proofs.shape.Shape.try_new.Goals as goal
use Rattle.shape_strides.proofs.shape.Shape.try_new.Goals.{then-not-are_within_limit-via-then-not-are_within_limit, then-not-are_within_limit-via-else-not-are_within_limit+then-capped_count-gt-MAX_ITEMS}

pub returns-then-lengths-gt-MAX_AXES : goal.returns-then-lengths-gt-MAX_AXES
returns-then-lengths-gt-MAX_AXES c = inr (shape_of-many c.args.lengths.now (omega arith))

pub returns-then-not-are_within_limit : goal.returns-then-not-are_within_limit
returns-then-not-are_within_limit c =
    elim c.then-not-are_within_limit.branch [
      | then-not-are_within_limit-via-then-not-are_within_limit w ↦ inr (shape_of-long c.args.lengths.now (omega arith) (sym w.if-not-are_within_limit.ensures.value))
      | then-not-are_within_limit-via-else-not-are_within_limit+then-capped_count-gt-MAX_ITEMS w ↦ inr (shape_of-large c.args.lengths.now (omega arith) (sym w.if-not-are_within_limit.ensures.value) (omega (arith, w.capped_count.ensures)))
    ]

pub returns : goal.returns
returns c = shape_of-ok c.args.lengths.now (omega arith) (sym c.if-not-are_within_limit.ensures.value) (omega (arith, c.capped_count.ensures)) ∙ ap Ok (sym c.in_ok-from_lengths.ensures)
