use Rattle.std.proofs.Common.{inr, Ok, sym, ◌∙◌}
use Rattle.elementwise.proofs.Words.{ScalarDescr, number_size, can-itself, little, is_scalar}
use Rattle.elementwise.proofs.WorkLaws.{number_small}
use Rattle.elementwise.proofs.MadeLaws.{made-given, refused}
use Rattle.elementwise.proofs.PromotedLaws.{promoted_one, native-little, number-read, can-number, operand_refused, kind_refused, one_given}
use Rattle.elementwise.proofs.AppliedLaws.{changed}
use Rattle.elementwise.proofs.apply.apply1.Goals as goal

pub returns-in_err-from : goal.returns-in_err-from
returns-in_err-from c =
    refused _ _ _ _ c.from_residual.ensures.1 (inr (operand_refused c.args.op c.args.operand.descr.now c.args.operand.layout.now.shape c.in_err-from.field-0.0 c.in_err-from.ensures))

pub returns-in_err-scalar : goal.returns-in_err-scalar
returns-in_err-scalar c =
    refused _ _ _ _ c.from_residual-in_err-scalar.ensures.1 (inr (kind_refused c.args.op c.args.operand.descr.now c.args.operand.layout.now.shape c.in_ok-from.from c.in_err-scalar.field-0.0 c.in_ok-from.ensures c.in_err-scalar.ensures))

pub read_as-requires : goal.read_as-requires
read_as-requires c = native-little c.in_ok-scalar.scalar (promoted_one c.args.op c.in_ok-from.from c.in_ok-scalar.scalar c.in_ok-scalar.ensures).0

pub invariant_of-both : goal.invariant_of-both
invariant_of-both c = let itself = can-itself c.args.operand.layout.now.shape in record { first = itself; second = itself }

pub make_cast-requires : goal.make_cast-requires
make_cast-requires c =
    let is = promoted_one c.args.op c.in_ok-from.from c.in_ok-scalar.scalar c.in_ok-scalar.ensures in
    let read = c.read_as.result in
    let number = number-read read c.in_ok-scalar.scalar c.read_as.ensures is.0 in
    let can = can-number c.args.operand.descr.now c.in_ok-from.from read (is_scalar c.args.operand.descr.now c.in_ok-from.from c.in_ok-from.ensures) is.1 number in
    record { can = (number, tt); small = (number_size read number, number_size read number, number_small read number); left = can; right = can }

pub returns : goal.returns
returns c =
    let x = c.args.operand in
    let read = c.read_as.result in
    let is = promoted_one c.args.op c.in_ok-from.from c.in_ok-scalar.scalar c.in_ok-scalar.ensures in
    let number = number-read read c.in_ok-scalar.scalar c.read_as.ensures is.0 in
    made-given (ScalarDescr (little read)) x.layout.now.shape _ _ c.in_ok-make_cast.ensures _ _
    (one_given c.args.op x.descr.now x.layout.now.shape c.in_ok-from.from c.in_ok-scalar.scalar c.in_ok-from.ensures c.in_ok-scalar.ensures
    ∙ λ i. Ok (ScalarDescr (sym c.read_as.ensures i), x.layout.now.shape))
    (changed c.args.op read x.descr.now x.layout.now x.block.now number (can-number x.descr.now c.in_ok-from.from read (is_scalar x.descr.now c.in_ok-from.from c.in_ok-from.ensures) is.1 number))
