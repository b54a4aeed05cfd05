use Rattle.std.proofs.Common.{List, length}
use Rattle.npy_format.proofs.Words.{Literal, tokens, HasValues}
use Rattle.npy_format.proofs.HeaderLaws.{LengthsLeft}
use Rattle.npy_format.proofs.header.lengths.Given as goal

-- the values so far are integers
abbrev pub invariant-loop-digits : goal.invariant-loop-digits
invariant-loop-digits l = (values : List Literal) → HasValues 41 (tokens l.initial.rest) values → LengthsLeft values l.axes.items (tokens l.rest)

abbrev pub decreases-loop-digits : goal.decreases-loop-digits
decreases-loop-digits l = length (tokens l.rest)
