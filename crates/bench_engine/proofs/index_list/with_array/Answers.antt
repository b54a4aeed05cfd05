use Rattle.std.proofs.Common.{refl, sym, ap, ◌∙◌}
use Rattle.bench_engine.proofs.Words.{ArrayItem, Items, found-array, by_items}
use Rattle.bench_engine.proofs.IndexLaws.{array-is}
use Rattle.bench_engine.proofs.index_list.with_array.Goals as goal

pub returns-in-Array : goal.returns-in-Array
returns-in-Array c =
    let state = c.args.bench.now.state in
    let it = found-array state _ c.unwrap-array.result (rw c.unwrap-array.ensures at c.get.ensures) in
    let array = c.unwrap-array.result in
    let x : Items = record { block = array.block; layout = array.layout; descr = array.descr; inside = it.2.inside } in
    rw c.in-Array.is (ap ArrayItem (array-is state it.0 array x it.2 refl refl refl ∙ ap (by_items state) (sym it.1)))
