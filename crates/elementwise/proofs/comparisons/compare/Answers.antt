use Rattle.std.proofs.Common.{inl, inr, Ok, refl, ◌∙◌}
use Rattle.elementwise.proofs.Words.{ScalarDescr, BoolScalar, is_scalar}
use Rattle.elementwise.proofs.ComparedLaws.{compared_bools, comparable_scalars, left_refused, right_refused, type_refused, shapes_refused, all_given}
use Rattle.elementwise.proofs.MadeLaws.{made-given, refused}
use Rattle.elementwise.proofs.comparisons.compare.Goals as goal

pub returns-in_err-from : goal.returns-in_err-from
returns-in_err-from c =
    refused _ _ _ _ c.from_residual.ensures.1 (inr (left_refused c.args.left.descr.now c.args.left.layout.now.shape c.args.right.descr.now c.args.right.layout.now.shape c.in_err-from.field-0.0 c.in_err-from.ensures))

pub returns-in_err-other : goal.returns-in_err-other
returns-in_err-other c =
    refused _ _ _ _ c.from_residual-in_err-other.ensures.1 (inr (right_refused c.args.left.descr.now c.args.left.layout.now.shape c.args.right.descr.now c.args.right.layout.now.shape c.in_ok-from.from c.in_err-other.field-0.0 c.in_ok-from.ensures c.in_err-other.ensures))

pub returns-in_err-compared_type : goal.returns-in_err-compared_type
returns-in_err-compared_type c =
    refused _ _ _ _ c.from_residual-in_err-compared_type.ensures.1 (inr (type_refused c.args.left.descr.now c.args.left.layout.now.shape c.args.right.descr.now c.args.right.layout.now.shape c.in_ok-from.from c.in_ok-other.other c.in_err-compared_type.field-0.0 c.in_ok-from.ensures c.in_ok-other.ensures c.in_err-compared_type.ensures))

pub returns-in_err-shape : goal.returns-in_err-shape
returns-in_err-shape c =
    refused _ _ _ _ c.from_residual-in_err-shape.ensures.1 (elim c.in_err-shape.ensures.value [
      | inl none ↦ inl none
      | inr there ↦ inr (shapes_refused c.args.left.descr.now c.args.left.layout.now.shape c.args.right.descr.now c.args.right.layout.now.shape c.in_ok-from.from c.in_ok-other.other _ c.in_err-shape.field-0.0 c.in_ok-from.ensures c.in_ok-other.ensures c.in_ok-compared_type.ensures there)
    ])

pub compare_once-requires : goal.compare_once-requires
compare_once-requires c =
    comparable_scalars c.args.left.descr.now c.args.right.descr.now c.in_ok-from.from c.in_ok-other.other (is_scalar c.args.left.descr.now c.in_ok-from.from c.in_ok-from.ensures) (is_scalar c.args.right.descr.now c.in_ok-other.other c.in_ok-other.ensures)
    (compared_bools c.in_ok-from.from c.in_ok-other.other _ c.in_ok-compared_type.ensures).0

pub returns : goal.returns
returns c =
    let bools = (compared_bools c.in_ok-from.from c.in_ok-other.other _ c.in_ok-compared_type.ensures).1 in
    made-given (ScalarDescr BoolScalar) c.in_ok-shape.shape _ _ c.in_ok-compare_once.ensures _ _
    (all_given c.args.left.descr.now c.args.left.layout.now.shape c.args.right.descr.now c.args.right.layout.now.shape c.in_ok-from.from c.in_ok-other.other _ c.in_ok-shape.shape c.in_ok-from.ensures c.in_ok-other.ensures c.in_ok-compared_type.ensures c.in_ok-shape.ensures.value
    ∙ λ i. Ok (ScalarDescr (bools i), c.in_ok-shape.shape))
    refl
