use Rattle.overlap_copy.proofs.Words.{IfSome_then, IsPermutation, IsPermutation-sym, IsPermutation-trans}
use Rattle.overlap_copy.proofs.SearchLaws.{forward-reordered, sum-reordered}
use Rattle.overlap_copy.proofs.fast.axis_sums.has_sum.Goals as goal
use Rattle.overlap_copy.proofs.fast.axis_sums.has_sum.Goals.{After-reverse}

-- the axes are ordered, the widest first
order : (c : After-reverse) → IsPermutation c.args.axes.now c.reverse.new.self
order c = IsPermutation-trans _ _ _ c.sort_unstable_by_key.ensures.permutation c.reverse.ensures.permutation

pub reach_of-reach-requires : goal.reach_of-reach-requires
reach_of-reach-requires c = forward-reordered c.args.axes.now c.reverse.new.self (order (goal.at.reach_of-reach-requires c).After-reverse) c.requires

pub search-requires-clause-forward : goal.search-requires-clause-forward
search-requires-clause-forward c = forward-reordered c.args.axes.now c.reverse.new.self (order (goal.at.search-requires-clause-forward c).After-reverse) c.requires

pub returns : goal.returns
returns c =
    let same = order (goal.at.returns c).After-reverse in
    IfSome_then c.search.result c.search.ensures (λ yes is. (λ t. sum-reordered _ _ (IsPermutation-sym _ _ same) _ _ (is.0 t), λ s. is.1 (sum-reordered _ _ same _ _ s)))
