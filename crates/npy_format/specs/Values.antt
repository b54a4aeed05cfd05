-- The values of Python's literals that a header needs.
use Rattle.std.specs.Prelude.{ℕ, Bool, List}

-- a literal that is neither a tuple nor a list: a string (its bytes), an integer, a truth value, `None`, or a
-- dictionary, whose pairs are not kept
pub data Plain : Type 0 where
  Text : List ℕ → Plain
  Integer : ℕ → Plain
  Truth : Bool → Plain
  Nothing : Plain
  Dictionary : Plain

-- the brackets around values: round ones for a tuple, square ones for a list
pub data Brackets : Type 0 where
  Round : Brackets
  Square : Brackets

-- The values of a tuple or a list, in order. Each is plain, or again a tuple or a list.
pub data ListedValues : Type 0 where
  no_values : ListedValues
  plain_value : Plain → ListedValues → ListedValues
  row_value : Brackets → ListedValues → ListedValues → ListedValues
