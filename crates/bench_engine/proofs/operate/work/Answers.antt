use Rattle.bench_engine.proofs.WorkLaws.{binary-gives, compared-gives}
use Rattle.bench_engine.proofs.operate.work.Goals as goal

pub returns-in-Binary-clause-gives : goal.returns-in-Binary-clause-gives
returns-in-Binary-clause-gives c v w left right =
    let e = c.apply2.ensures in
    rw c.in-Binary.is (binary-gives c.in-Binary.op v w c.args.left c.args.right c.apply2.result left right e.gives e.order e.items)

pub returns-in-Compare-clause-gives : goal.returns-in-Compare-clause-gives
returns-in-Compare-clause-gives c v w left right =
    let e = c.compare.ensures in
    rw c.in-Compare.is (compared-gives c.in-Compare.comparison v w c.args.left c.args.right c.compare.result left right e.gives e.order e.items)
