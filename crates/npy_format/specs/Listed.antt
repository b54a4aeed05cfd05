-- Literals, and the values of a tuple or a list as a list of literals.
use Rattle.std.specs.Prelude.{List, [], ◌∷◌}
use Rattle.npy_format.specs.Values as value
use Rattle.npy_format.specs.Values.{Brackets, ListedValues, no_values, plain_value, row_value}

pub data Literal : Type 0 where
  Plain : value.Plain → Literal
  Row : Brackets → ListedValues → Literal

-- a key of a dictionary, and its value
pub record Pair : Type 0 where
  pub key : Literal
  pub value : Literal

abbrev pub value_literals : ListedValues → List Literal
value_literals no_values = []
value_literals (plain_value plain rest) = Plain plain ∷ value_literals rest
value_literals (row_value brackets inner rest) = Row brackets inner ∷ value_literals rest

-- the values `rest` with one literal in front
abbrev pub listed_value_before : Literal → ListedValues → ListedValues
listed_value_before (Plain plain) rest = plain_value plain rest
listed_value_before (Row brackets values) rest = row_value brackets values rest

-- the values that are these literals: the inverse of `value_literals`
abbrev pub all_listed_values : List Literal → ListedValues
all_listed_values [] = no_values
all_listed_values (literal ∷ literals) = listed_value_before literal (all_listed_values literals)
