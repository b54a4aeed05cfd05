use Rattle.std.proofs.Common.{◌≡◌, ◌+◌, ◌*◌, length}
use Rattle.script_lang.proofs.Words.{by_rule, none_or_more, literal_within, literals_of}
use Rattle.script_lang.proofs.Lists.{in_front}
use Rattle.script_lang.proofs.grammar.literals.+nesting.Given as goal

-- the values of a record are allowed one level less than the record
abbrev pub decreases-literal_within : goal.decreases-literal_within
decreases-literal_within l = 3 * l.depth

abbrev pub decreases-record : goal.decreases-record
decreases-record l = 3 * l.depth + 2

abbrev pub decreases-values : goal.decreases-values
decreases-values l = 3 * l.depth + 1

-- the values so far, followed by those of the rest, are all values
abbrev pub invariant-values-loop-end : goal.invariant-values-loop-end
invariant-values-loop-end l = by_rule (none_or_more (literal_within l.depth) 41) l.bytes ≡ in_front (literals_of l.values) (by_rule (none_or_more (literal_within l.depth) 41) l.rest)

abbrev pub decreases-values-loop-end : goal.decreases-values-loop-end
decreases-values-loop-end l = length l.rest
