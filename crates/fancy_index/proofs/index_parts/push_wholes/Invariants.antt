use Rattle.std.proofs.Common.{true, take}
use Rattle.fancy_index.proofs.Words.{wholes, AddsParts}
use Rattle.fancy_index.proofs.index_parts.push_wholes.Given as goal

abbrev pub invariant-loop-n : goal.invariant-loop-n
invariant-loop-n l = AddsParts l.initial.parts.items l.parts.items (take l.n-index l.axes) true (wholes (take l.n-index l.axes))
