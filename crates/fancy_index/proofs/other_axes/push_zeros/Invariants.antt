use Rattle.std.proofs.Common.{◌≡◌, ◌++◌, map, drop}
use Rattle.fancy_index.proofs.Words.{AtAxis}
use Rattle.fancy_index.proofs.other_axes.push_zeros.Given as goal

abbrev pub invariant-loop : goal.invariant-loop
invariant-loop l = l.picks.items ++ map (λ _. AtAxis 0) (drop l.index l.axes) ≡ l.initial.picks.items ++ map (λ _. AtAxis 0) l.axes
