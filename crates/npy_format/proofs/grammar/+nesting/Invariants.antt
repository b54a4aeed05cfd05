use Rattle.std.proofs.Common.{◌≡◌, ◌+◌, ◌*◌, length, nat_eq}
use Rattle.npy_format.proofs.Words.{tokens, behind_all}
use Rattle.npy_format.proofs.grammar.+nesting.Given as goal

-- what is in brackets is allowed one level less
abbrev pub decreases-skip_literal : goal.decreases-skip_literal
decreases-skip_literal l = 8 * l.depth

abbrev pub decreases-skip_key : goal.decreases-skip_key
decreases-skip_key l = 8 * l.depth + 1

abbrev pub decreases-skip_entry : goal.decreases-skip_entry
decreases-skip_entry l = 8 * l.depth + 2

abbrev pub decreases-skip_entries : goal.decreases-skip_entries
decreases-skip_entries l = 8 * l.depth + 3

abbrev pub decreases-skip_tuple : goal.decreases-skip_tuple
decreases-skip_tuple l = 8 * l.depth + 4

abbrev pub decreases-skip_bracketed : goal.decreases-skip_bracketed
decreases-skip_bracketed l = 8 * l.depth + 5

-- what follows all entries is what follows the rest of them
abbrev pub invariant-skip_entries-loop-end : goal.invariant-skip_entries-loop-end
invariant-skip_entries-loop-end l = behind_all l.depth (nat_eq l.closing 125) l.closing (tokens l.text) ≡ behind_all l.depth (nat_eq l.closing 125) l.closing (tokens l.rest)

abbrev pub decreases-skip_entries-loop-end : goal.decreases-skip_entries-loop-end
decreases-skip_entries-loop-end l = length (tokens l.rest)
