use Rattle.std.proofs.Common.{sym, ap, ◌∙◌}
use Rattle.fancy_index.proofs.Words.{numbers_in, true_count}
use Rattle.fancy_index.proofs.BoolLaws.{length-true_ranks, numbers-same}
use Rattle.fancy_index.proofs.masks.count_true.Goals as goal

pub returns-in-Some : goal.returns-in-Some
returns-in-Some c =
    let same = numbers-same c.items.result c.args.mask (c.items.ensures.items ∙ c.in-Some.ensures.items) in
    c.count_in.ensures ∙ ap true_count same ∙ sym (length-true_ranks (numbers_in c.args.mask) 0)

pub returns-in-None : goal.returns-in-None
returns-in-None c = c.count_in-in-None.ensures ∙ sym (length-true_ranks (numbers_in c.args.mask) 0)
