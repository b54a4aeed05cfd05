use Rattle.std.proofs.Common.{◌≡◌, length}
use Rattle.script_lang.proofs.Words.{numbers_at, by_rule, none_or_more}
use Rattle.script_lang.proofs.Lists.{in_front}
use Rattle.script_lang.proofs.grammar.numbers.shape.Given as goal

-- the numbers so far, followed by those of the rest, are all numbers
abbrev pub invariant-loop-end : goal.invariant-loop-end
invariant-loop-end g l = numbers_at g.T.Entry.entry_at l.fn.bytes ≡ in_front l.numbers (by_rule (none_or_more g.T.Entry.entry_at 41) l.rest)

abbrev pub decreases-loop-end : goal.decreases-loop-end
decreases-loop-end g l = length l.rest
