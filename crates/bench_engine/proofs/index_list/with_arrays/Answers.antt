use Rattle.std.proofs.Common.{ap, ◌∙◌, List, ℕ}
use Rattle.bench_engine.proofs.Words.{list_all, IndexItem, is_bound, names_in_item, array_by_items}
use Rattle.bench_engine.proofs.IndexLaws.{item-added, each-bound}
use Rattle.bench_engine.proofs.index_list.with_arrays.Goals as goal

pub with_array-requires : goal.with_array-requires
with_array-requires c =
    ap (λ (item : IndexItem (List ℕ)). list_all (is_bound c.args.bench.now.state) (names_in_item item)) c.item-item.is ∙ each-bound c.args.bench.now.state c.args.index.now c.loop-item.item-index c.item-item.result c.requires c.loop-item-test.true

pub loop-item-preserved : goal.loop-item-preserved
loop-item-preserved c =
    item-added c.args.bench.now.state c.loop-item.items.items c.push.new.self.items c.args.index.now c.loop-item.item-index _ c.item-item.result c.in_ok-push.ensures.items c.loop-item-test.true
    c.loop-item.invariant (c.with_array.ensures ∙ ap (array_by_items c.args.bench.now.state) c.item-item.is)
