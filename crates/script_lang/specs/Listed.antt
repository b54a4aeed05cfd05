-- The values of a record literal as a list of literals.
use Rattle.std.specs.Prelude.{List, [], ◌∷◌}
use Rattle.script_lang.specs.declared.literal.Literal.{Literal}
use Rattle.script_lang.specs.declared.literal.Literal.TheVariants.{Scalar, Record}
use Rattle.script_lang.specs.RecordValues.{Values, no_values, scalar_value, record_value}

-- the values `rest` with one literal in front
abbrev pub value_before : Literal → Values → Values
value_before (Scalar scalar) rest = scalar_value scalar rest
value_before (Record values) rest = record_value values rest

-- the values that are these literals, in order
abbrev pub all_values : List Literal → Values
all_values [] = no_values
all_values (literal ∷ literals) = value_before literal (all_values literals)

-- the literals that the values are, in order
abbrev pub literals_of : Values → List Literal
literals_of no_values = []
literals_of (scalar_value scalar rest) = Scalar scalar ∷ literals_of rest
literals_of (record_value inner rest) = Record inner ∷ literals_of rest
