use Rattle.std.proofs.Common.{sym, ap, ◌∙◌, subst}
use Rattle.bench_engine.proofs.Words.{Gives, Binary, operand_of_literal, operation_with, held, OwnStands}
use Rattle.bench_engine.proofs.OperandLaws.{own-stands}
use Rattle.bench_engine.proofs.WorkLaws.{binary-gives}
use Rattle.bench_engine.proofs.Answered.{met}
use Rattle.bench_engine.proofs.operate.work_literal.Goals as goal

pub returns-in_ok-item-in-Binary-clause-gives : goal.returns-in_ok-item-in-Binary-clause-gives
returns-in_ok-item-in-Binary-clause-gives c v stands =
    let e = c.apply2.ensures in
    let there = met OwnStands c.in_ok-item-in-Binary.item (operand_of_literal c.in-Binary.op c.args.left.descr.now c.args.literal.now) c.in_ok-item-in-Binary.ensures in
    let other = own-stands there.0 c.in_ok-item-in-Binary.item c.items.result there.2 c.items.ensures.block c.items.ensures.layout c.items.ensures.descr in
    rw c.in-Binary.is (subst (Gives held c.apply2.result) (ap (operation_with (Binary c.in-Binary.op) v) (sym there.1 ∙ ap (λ d. operand_of_literal c.in-Binary.op d c.args.literal.now) (sym stands.descr)))
    (binary-gives c.in-Binary.op v there.0 c.args.left c.items.result c.apply2.result stands other e.gives e.order e.items))
