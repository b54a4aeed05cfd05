use Rattle.std.proofs.Common.{◌≡◌, length}
use Rattle.script_lang.proofs.Words.{by_rule, one_or_more, index_item_at}
use Rattle.script_lang.proofs.Lists.{in_front}
use Rattle.script_lang.proofs.grammar.indexes.index.Given as goal

-- the items so far, followed by those of the rest, are all items
abbrev pub invariant-loop-entry : goal.invariant-loop-entry
invariant-loop-entry l = by_rule (one_or_more index_item_at 93) l.bytes ≡ in_front l.index (by_rule (one_or_more index_item_at 93) l.rest)

abbrev pub decreases-loop-entry : goal.decreases-loop-entry
decreases-loop-entry l = length l.rest
