use Rattle.std.proofs.Common.{◌≡◌, ◌++◌, drop}
use Rattle.fancy_index.proofs.Words.{rest_picks}
use Rattle.fancy_index.proofs.other_axes.rest_picks.Given as goal

abbrev pub invariant-loop-part : goal.invariant-loop-part
invariant-loop-part l = l.picks.items ++ rest_picks (drop l.part-index l.parts) ≡ rest_picks l.parts
