use Rattle.std.proofs.Common.{◌≡◌, length}
use Rattle.script_lang.proofs.Words.{byte_at, by_rule, row, text_byte_at}
use Rattle.script_lang.proofs.Lists.{in_front}
use Rattle.script_lang.proofs.grammar.literals.byte_row.Given as goal

-- the bytes so far, followed by those of the rest, are all bytes
abbrev pub invariant-loop-end : goal.invariant-loop-end
invariant-loop-end l = by_rule (row text_byte_at (byte_at 39)) l.bytes ≡ in_front l.text (by_rule (row text_byte_at (byte_at 39)) l.rest)

abbrev pub decreases-loop-end : goal.decreases-loop-end
decreases-loop-end l = length l.rest
