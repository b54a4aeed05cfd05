use Rattle.std.proofs.Common.{◌≡◌, ◌≤◌, [], length, vec_capacity}
use Rattle.reductions.proofs.Words.{number_of_side, EachOf}
use Rattle.reductions.proofs.fast.begin.Given as goal

-- the first lines have a state
abbrev pub invariant-loop-j : goal.invariant-loop-j
invariant-loop-j g l = record {
  len : length l.held.items ≡ l.j;
  room : l.firsts.run.count ≤ vec_capacity l.held;
  held : EachOf l.j l.held.items (λ j one. g.F.Fold.holds one (number_of_side (g.S.Number.scalar g.O.Ordered.order) l.firsts j) []);
}
