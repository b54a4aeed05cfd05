use Rattle.std.proofs.Common.{◌≡◌, ◌+◌, length, take}
use Rattle.elementwise.proofs.Words.{joined, number_pair, made_of}
use Rattle.elementwise.proofs.loops.numbers.Numbers.sixteen.Given as goal

abbrev pub invariant-loop-j : goal.invariant-loop-j
invariant-loop-j g l =
    let made = made_of (number_pair (g.A.Number.scalar g.O.Ordered.order) (g.B.Number.scalar g.O.Ordered.order) (g.T.Number.scalar g.Q.Ordered.order) g.K.Kernel.makes) l.pairs in
    record {
      size : length l.made ≡ 16;
      bytes : take l.j l.made ≡ joined (λ j. made (l.from + j)) l.j;
    }
