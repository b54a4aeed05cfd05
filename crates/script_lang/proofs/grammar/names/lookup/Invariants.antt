use Rattle.std.proofs.Common.{◌≡◌, length, map}
use Rattle.script_lang.proofs.Words.{beside}
use Rattle.script_lang.proofs.grammar.names.lookup.Given as goal

-- the lookup of the word in the rest of the table gives the same as in the whole table
abbrev pub invariant-loop-table : goal.invariant-loop-table
invariant-loop-table l = beside (map (λ row. (row.0.now, row.1)) l.table) l.word ≡ beside (map (λ row. (row.0.now, row.1)) l.initial.table) l.word

abbrev pub decreases-loop-table : goal.decreases-loop-table
decreases-loop-table l = length l.table
