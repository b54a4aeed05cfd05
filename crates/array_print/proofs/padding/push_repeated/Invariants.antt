use Rattle.std.proofs.Common.{replicate}
use Rattle.array_print.specs.inside.Pushed.{Held}
use Rattle.array_print.proofs.padding.push_repeated.Given as goal

-- the copies so far are pushed
abbrev pub invariant-loop-i : goal.invariant-loop-i
invariant-loop-i g l = Held (replicate l._i l.byte) (g.W.Write.contents l.fn.writer) (g.W.Write.contents l.writer) l.fn.out l.out
