-- Fields of records, and their literals.
use Rattle.std.specs.Prelude.{ℕ, Bool, false, List, [], ◌∷◌, ◌++◌, take, drop}
use Rattle.literal_items.specs.Words.{Scalar, Leaf, Descr, LeafValue, size, encode, ScalarLiteral, Literal, ScalarDescr, RecordDescr, ScalarOf, RecordOf}
use Rattle.literal_items.specs.declared.leaf.Test.{Test}
use Rattle.literal_items.specs.declared.leaf.Test.TheVariants.{Castable, InRange}
use Rattle.literal_items.specs.LiteralItems.{is_castable, is_in_range, leaf_value, stand_for, field_values}

-- whether a literal matches one field, and each scalar passes a test with its field
abbrev pub stands_for : (Scalar → ScalarLiteral → Bool) → Descr → Literal → Bool
stands_for test (ScalarDescr scalar) (ScalarOf literal) = test scalar literal
stands_for test (RecordDescr structure) (RecordOf literals) = stand_for test structure.fields literals
stands_for test _ _ = false

abbrev pub can_be_field : Descr → Literal → Bool
can_be_field = stands_for is_castable

-- whether a literal passes a test of a scalar
abbrev pub passes : Test → Scalar → ScalarLiteral → Bool
passes Castable = is_castable
passes InRange = is_in_range

-- the values of one field
abbrev pub field_value : Descr → Literal → List LeafValue
field_value (ScalarDescr scalar) (ScalarOf literal) = leaf_value scalar literal ∷ []
field_value (RecordDescr structure) (RecordOf literals) = field_values structure.fields literals
field_value _ _ = []

-- the item with the `width` bytes at offset `at` replaced by these bytes
abbrev pub put : ℕ → ℕ → List ℕ → List ℕ → List ℕ
put at width bytes item = take at item ++ (bytes ++ drop width (drop at item))

-- the bytes of an item, with the values of leaves written at their offsets
abbrev pub put_leaves : List ℕ → List Leaf → List LeafValue → List ℕ
put_leaves item (leaf ∷ leaves) (value ∷ values) = put_leaves (put leaf.at (size leaf.scalar) (encode leaf.scalar value) item) leaves values
put_leaves item _ _ = item
