-- The values of a record literal.
use Rattle.std.specs.Prelude.{ℕ, ◌+◌}
use Rattle.script_lang.specs.declared.literal.ScalarLiteral.{ScalarLiteral}

-- The values of a record literal, in order. Each is a scalar, or the values of an inner record.
pub data Values : Type 0 where
  no_values : Values
  scalar_value : ScalarLiteral → Values → Values
  record_value : Values → Values → Values

-- the number of values; an inner record counts as one
abbrev pub value_count : Values → ℕ
value_count no_values = 0
value_count (scalar_value scalar rest) = 1 + value_count rest
value_count (record_value inner rest) = 1 + value_count rest

-- the number of scalars and inner records at all levels
abbrev pub node_count : Values → ℕ
node_count no_values = 0
node_count (scalar_value scalar rest) = 1 + node_count rest
node_count (record_value inner rest) = 1 + node_count inner + node_count rest
