use Rattle.std.proofs.Common.{◌*◌}
use Rattle.elementwise.proofs.Words.{number_pair, AreAdded, joined, made_of}
use Rattle.elementwise.proofs.loops.numbers.Numbers.push_each.Given as goal

abbrev pub invariant-loop-group : goal.invariant-loop-group
invariant-loop-group g l =
    let made = made_of (number_pair (g.A.Number.scalar g.O.Ordered.order) (g.B.Number.scalar g.O.Ordered.order) (g.T.Number.scalar g.Q.Ordered.order) g.K.Kernel.makes) l.fn.pairs in
    AreAdded (16 * l.group) (joined made (16 * l.group)) l.fn.block l.block
