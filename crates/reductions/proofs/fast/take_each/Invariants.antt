use Rattle.std.proofs.Common.{◌≡◌, ◌≤◌, [], ◌∷◌, length}
use Rattle.reductions.proofs.Words.{number_of_side, EachPair, TakesIn}
use Rattle.reductions.proofs.fast.take_each.Given as goal

-- the first lines have visited their number, and the later ones are unchanged
abbrev pub invariant-loop-j : goal.invariant-loop-j
invariant-loop-j g l = record {
  len : length l.held ≡ length l.initial.held;
  done : EachPair l.j l.initial.held l.held (λ j one after. TakesIn g.F.Fold.holds one l.seen (number_of_side (g.S.Number.scalar g.O.Ordered.order) l.row j ∷ []) after);
  later : EachPair (length l.initial.held) l.held l.initial.held (λ j now one. l.j ≤ j → now ≡ one);
}
