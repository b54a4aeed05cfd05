-- The measure that decreases in a recursion over a literal.
use Rattle.std.specs.Prelude.{ℕ}
use Rattle.script_lang.specs.declared.literal.Literal.{Literal}
use Rattle.script_lang.specs.RecordValues.{no_values, node_count}
use Rattle.script_lang.specs.Listed.{value_before}

-- the number of scalars and records in a literal, itself included
abbrev pub literal_nodes : Literal → ℕ
literal_nodes literal = node_count (value_before literal no_values)
