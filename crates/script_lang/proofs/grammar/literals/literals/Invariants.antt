use Rattle.std.proofs.Common.{◌≡◌, length}
use Rattle.script_lang.proofs.Words.{by_rule, row, literal_at, line_end_at}
use Rattle.script_lang.proofs.Lists.{in_front}
use Rattle.script_lang.proofs.grammar.literals.literals.Given as goal

-- the literals so far, followed by those of the rest, are all literals
abbrev pub invariant-loop-alloc : goal.invariant-loop-alloc
invariant-loop-alloc l = by_rule (row literal_at line_end_at) l.bytes ≡ in_front l.literals (by_rule (row literal_at line_end_at) l.rest)

abbrev pub decreases-loop-alloc : goal.decreases-loop-alloc
decreases-loop-alloc l = length l.rest
