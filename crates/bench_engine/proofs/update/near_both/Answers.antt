use Rattle.bench_engine.proofs.Moved.{near-together}
use Rattle.bench_engine.proofs.update.near_both.Goals as goal

pub returns-in-Ok : goal.returns-in-Ok
returns-in-Ok c = near-together c.args.view.now c.args.items.now c.in-Ok.wide c.in_memory_order.result c.in-Ok.ensures c.in_memory_order.ensures.pairs
