use Rattle.std.proofs.Common.{inr, Ok, sym, ap, ◌∙◌}
use Rattle.broadcasting.proofs.Words.{common_of_two, eqb-true, nil_from_length, slice_eq-Decides, Decides-eqb}
use Rattle.broadcasting.proofs.AlignedLaws.{common-of-none, common-same, refused-at, found-all}
use Rattle.broadcasting.proofs.common_shape.common_of_two.Goals.{then-is_empty-via-then-is_empty, then-is_empty-via-else-is_empty+then-eq}
use Rattle.broadcasting.proofs.common_shape.common_of_two.Goals as goal

pub returns-then-is_empty : goal.returns-then-is_empty
returns-then-is_empty c =
    let own = ap Ok (sym c.in_ok-from_slice.ensures.ok) in
    elim c.then-is_empty.branch [
      | then-is_empty-via-then-is_empty w ↦
          let none = nil_from_length c.args.left.now (eqb-true _ 0 (sym w.if-is_empty.ensures)) in
          ap (λ left. common_of_two left c.args.right.now) none ∙ common-of-none c.args.right.now ∙ own
      | then-is_empty-via-else-is_empty+then-eq w ↦
          let same = slice_eq-Decides Decides-eqb _ _ w.eq.result w.eq.ensures in
          ap (λ left. common_of_two left c.args.right.now) (same.0 w.if-eq.true) ∙ common-same c.args.right.now ∙ own
    ]

pub returns-then-not-go_together : goal.returns-then-not-go_together
returns-then-not-go_together c =
    inr (refused-at c.args.left.now c.args.right.now c.max-rank.result c.loop-axis.axis c.length_at-first.result c.length_at-second.result c.go_together.result c.max-rank.ensures c.loop-axis-test.true c.length_at-first.ensures c.length_at-second.ensures c.go_together.ensures c.if-not-go_together.true c.loop-axis.invariant.together)

pub returns : goal.returns
returns c =
    found-all c.args.left.now c.args.right.now c.max-rank.result c.loop-axis.axis c.loop-axis.lengths.items c.max-rank.ensures c.loop-axis-test.false c.loop-axis.invariant.together c.loop-axis.invariant.lengths_are
