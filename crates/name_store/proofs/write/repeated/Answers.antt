use Rattle.std.proofs.Common.{◌∙◌, ◌++◌}
use Rattle.name_store.proofs.Words.{joined}
use Rattle.name_store.proofs.ExchangeLaws.{repeated-packed}
use Rattle.name_store.proofs.write.repeated.Goals as goal

pub returns : goal.returns
returns c =
    repeated-packed c.args.item.now c.finish.result c.args.count
    (c.finish.ensures ∙ c.push_repeated.ensures.bytes ∙ (λ i. (c.in_ok-items.ensures i).0 ++ joined (λ _. c.args.item.now) c.args.count))
