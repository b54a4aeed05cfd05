use Rattle.std.proofs.Common.{◌+◌, ◌++◌, sym, ap, ◌∙◌, arith, append-nil}
use Rattle.fancy_index.proofs.Words.{drop_all, bools_in, true_ranks}
use Rattle.fancy_index.proofs.BoolLaws.{length-bools}
use Rattle.fancy_index.proofs.masks.push_true.Goals as goal

pub returns : goal.returns
returns c =
    let bools = c.args.bools in
    let ranks = c.loop-from.ranks.items in
    sym (append-nil ranks)
    ∙ ap (λ l. ranks ++ true_ranks (bools.rank + c.loop-from.from) l) (sym (drop_all c.loop-from.from (bools_in bools) (omega (arith, c.loop-from-test.false, length-bools bools))))
    ∙ c.loop-from.invariant.added
