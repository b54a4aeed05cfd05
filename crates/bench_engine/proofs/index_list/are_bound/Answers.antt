use Rattle.std.proofs.Common.{◌∙◌, rules, tests}
use Rattle.std.proofs.lemmas.Iterator.{YieldsList-from_slice}
use Rattle.std.proofs.lemmas.Iterator.Search.{all_from_yields_List}
use Rattle.bench_engine.proofs.Words.{list_all, is_bound, names_in_item}
use Rattle.bench_engine.proofs.IndexLaws.{bound-in_each}
use Rattle.bench_engine.proofs.index_list.are_bound.Goals as goal

pub returns : goal.returns
returns c =
    let s = c.args.bench.now.state in
    all_from_yields_List (λ item. list_all (is_bound s) (names_in_item item)) _ _ _ c.all.ensures.ran (YieldsList-from_slice c.args.index.now cc) (λ x b q k. search (rules, tests)) ∙ bound-in_each s c.args.index.now
