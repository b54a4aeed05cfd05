use Rattle.std.proofs.Common.{◌≡◌, ap, ◌∙◌, nat_eq, not, rules}
use Rattle.reductions.proofs.Words.{count}
use Rattle.reductions.proofs.OutcomeLaws.{any_zero}
use Rattle.reductions.proofs.reduced_axis.lacks_items.Goals as goal

pub returns-then-list_length-eq0 : goal.returns-then-list_length-eq0
returns-then-list_length-eq0 c = let is : not c.contains.result ≡ not (nat_eq (count c.args.lengths.now) 0) = ap not (c.contains.ensures.value ∙ any_zero c.args.lengths.now) in search (rules, is)
