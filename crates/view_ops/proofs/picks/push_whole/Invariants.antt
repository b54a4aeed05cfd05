use Rattle.std.proofs.Common.{map, take}
use Rattle.view_ops.proofs.Words.{whole, AddsPicks}
use Rattle.view_ops.proofs.picks.push_whole.Given as goal

abbrev pub invariant-loop-n : goal.invariant-loop-n
invariant-loop-n l = AddsPicks l.initial.picks.items l.picks.items (take l.n-index l.axes) (map whole (take l.n-index l.axes))
