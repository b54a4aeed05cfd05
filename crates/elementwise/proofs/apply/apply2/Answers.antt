use Rattle.std.proofs.Common.{inl, inr, Ok, sym, ◌∙◌}
use Rattle.elementwise.proofs.Words.{ScalarDescr, number_size, little, items_stretched, is_scalar}
use Rattle.elementwise.proofs.WorkLaws.{number_small}
use Rattle.elementwise.proofs.MadeLaws.{made-given, refused}
use Rattle.elementwise.proofs.PromotedLaws.{promoted, native-little, number-read, can-number, left_refused, right_refused, promotion_refused, shapes_refused, all_given}
use Rattle.elementwise.proofs.AppliedLaws.{combined}
use Rattle.elementwise.proofs.apply.apply2.Goals as goal

pub returns-in_err-from : goal.returns-in_err-from
returns-in_err-from c =
    refused _ _ _ _ c.from_residual.ensures.1 (inr (left_refused c.args.op c.args.left.descr.now c.args.left.layout.now.shape c.args.right.descr.now c.args.right.layout.now.shape c.in_err-from.field-0.0 c.in_err-from.ensures))

pub returns-in_err-other : goal.returns-in_err-other
returns-in_err-other c =
    refused _ _ _ _ c.from_residual-in_err-other.ensures.1 (inr (right_refused c.args.op c.args.left.descr.now c.args.left.layout.now.shape c.args.right.descr.now c.args.right.layout.now.shape c.in_ok-from.from c.in_err-other.field-0.0 c.in_ok-from.ensures c.in_err-other.ensures))

pub returns-in_err-scalar : goal.returns-in_err-scalar
returns-in_err-scalar c =
    refused _ _ _ _ c.from_residual-in_err-scalar.ensures.1 (inr (promotion_refused c.args.op c.args.left.descr.now c.args.left.layout.now.shape c.args.right.descr.now c.args.right.layout.now.shape c.in_ok-from.from c.in_ok-other.other c.in_err-scalar.field-0.0 c.in_ok-from.ensures c.in_ok-other.ensures c.in_err-scalar.ensures))

pub returns-in_err-shape : goal.returns-in_err-shape
returns-in_err-shape c =
    refused _ _ _ _ c.from_residual-in_err-shape.ensures.1 (elim c.in_err-shape.ensures.value [
      | inl none ↦ inl none
      | inr there ↦ inr (shapes_refused c.args.op c.args.left.descr.now c.args.left.layout.now.shape c.args.right.descr.now c.args.right.layout.now.shape c.in_ok-from.from c.in_ok-other.other c.in_ok-scalar.scalar c.in_err-shape.field-0.0 c.in_ok-from.ensures c.in_ok-other.ensures c.in_ok-scalar.ensures there)
    ])

pub read_as-requires : goal.read_as-requires
read_as-requires c = native-little c.in_ok-scalar.scalar (promoted c.args.op c.in_ok-from.from c.in_ok-other.other c.in_ok-scalar.scalar c.in_ok-scalar.ensures).native

pub make_cast-requires : goal.make_cast-requires
make_cast-requires c =
    let is = promoted c.args.op c.in_ok-from.from c.in_ok-other.other c.in_ok-scalar.scalar c.in_ok-scalar.ensures in
    let read = c.read_as.result in
    let number = number-read read c.in_ok-scalar.scalar c.read_as.ensures is.native in
    record {
      can = (number, is.no_division);
      small = (number_size read number, number_size read number, number_small read number);
      left = can-number c.args.left.descr.now c.in_ok-from.from read (is_scalar c.args.left.descr.now c.in_ok-from.from c.in_ok-from.ensures) is.left number;
      right = can-number c.args.right.descr.now c.in_ok-other.other read (is_scalar c.args.right.descr.now c.in_ok-other.other c.in_ok-other.ensures) is.right number;
    }

pub returns : goal.returns
returns c =
    let x = c.args.left in
    let y = c.args.right in
    let read = c.read_as.result in
    let shape = c.in_ok-shape.shape in
    let is = promoted c.args.op c.in_ok-from.from c.in_ok-other.other c.in_ok-scalar.scalar c.in_ok-scalar.ensures in
    let number = number-read read c.in_ok-scalar.scalar c.read_as.ensures is.native in
    made-given (ScalarDescr (little read)) shape _ _ c.in_ok-make_cast.ensures _ _
    (all_given c.args.op x.descr.now x.layout.now.shape y.descr.now y.layout.now.shape c.in_ok-from.from c.in_ok-other.other c.in_ok-scalar.scalar shape c.in_ok-from.ensures c.in_ok-other.ensures c.in_ok-scalar.ensures c.in_ok-shape.ensures.value
    ∙ λ i. Ok (ScalarDescr (sym c.read_as.ensures i), shape))
    (combined c.args.op read x.descr.now y.descr.now (items_stretched x shape) (items_stretched y shape) number
    (can-number x.descr.now c.in_ok-from.from read (is_scalar x.descr.now c.in_ok-from.from c.in_ok-from.ensures) is.left number) (can-number y.descr.now c.in_ok-other.other read (is_scalar y.descr.now c.in_ok-other.other c.in_ok-other.ensures) is.right number))
