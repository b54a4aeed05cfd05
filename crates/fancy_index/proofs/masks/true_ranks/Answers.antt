use Rattle.std.proofs.Common.{ap, ◌∙◌}
use Rattle.fancy_index.proofs.Words.{IfOk-weaker, true_ranks}
use Rattle.fancy_index.proofs.BoolLaws.{numbers-same}
use Rattle.fancy_index.proofs.masks.true_ranks.Goals as goal

pub returns-in-Some : goal.returns-in-Some
returns-in-Some c =
    let same = numbers-same c.items.result c.args.mask (c.items.ensures.items ∙ c.in-Some.ensures.items) in
    IfOk-weaker c.ranks_in.result _ _ (λ v is. is ∙ ap (true_ranks 0) same) c.ranks_in.ensures
