use Rattle.std.proofs.Common.{List, length}
use Rattle.npy_format.proofs.Words.{Pair, tokens, HasPairs}
use Rattle.npy_format.proofs.HeaderLaws.{KeyLeft}
use Rattle.npy_format.proofs.header.value_under.Given as goal

-- none of the pairs so far has the key
abbrev pub invariant-loop-rest : goal.invariant-loop-rest
invariant-loop-rest l = (pairs : List Pair) → HasPairs (tokens l.pairs) pairs → KeyLeft l.key pairs (tokens l.rest)

abbrev pub decreases-loop-rest : goal.decreases-loop-rest
decreases-loop-rest l = length (tokens l.rest)
