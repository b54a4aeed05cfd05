-- Casts: items of one element type as items of another, as in NumPy's `astype`. An integer that is out of range is
-- wrapped, not refused.
use Rattle.std.specs.Prelude.{pos, Bool, true, false, not, ◌&&◌, if◌then◌else◌, List, [], ◌∷◌, get_or, map, take}
use Rattle.elementwise.specs.Words.{list_all, Descr, Leaf, Scalar, Bytes, is_text, LeafValue, number, text, wrap, without_nuls, number_of, text_of, Fields, no_more, scalar_field, record_field, leaves_of, ScalarDescr, RecordDescr}

-- ---- which casts exist

-- a number can be cast to any number, and a byte string to any byte string
abbrev pub can_cast_scalar : Scalar → Scalar → Bool
can_cast_scalar from to = if is_text from then is_text to else not (is_text to)

-- Fields are matched by position. At every level there must be equally many, and scalars are cast to scalars, and
-- records to records.
abbrev pub can_cast_fields : Fields → Fields → Bool
can_cast_fields no_more no_more = true
can_cast_fields (scalar_field _ _ from rest) (scalar_field _ _ to others) = can_cast_scalar from to && can_cast_fields rest others
can_cast_fields (record_field _ _ _ from rest) (record_field _ _ _ to others) = can_cast_fields from to && can_cast_fields rest others
can_cast_fields _ _ = false

-- a scalar can be cast to an element type if it can be cast to each of its leaves
abbrev pub can_cast : Descr → Descr → Bool
can_cast (ScalarDescr from) to = list_all (λ leaf. can_cast_scalar from leaf.scalar) (leaves_of to)
can_cast (RecordDescr from) (RecordDescr to) = can_cast_fields from.fields to.fields
can_cast (RecordDescr from) (ScalarDescr to) = false

-- ---- the results of casts

-- A value cast to a scalar. A number is wrapped to the scalar's number of bits; for a bool, any number but 0 becomes 1.
-- A byte string is cut to the scalar's length, and the NULs at its end are dropped.
abbrev pub cast_value : Scalar → LeafValue → LeafValue
cast_value (Bytes n) value = text (without_nuls (take n (text_of value)))
cast_value scalar value = number (wrap scalar (number_of value))

-- each value, cast to the leaf at its position
abbrev pub cast_values : List Leaf → List LeafValue → List LeafValue
cast_values (leaf ∷ leaves) (value ∷ values) = cast_value leaf.scalar value ∷ cast_values leaves values
cast_values _ _ = []

-- an item of the first element type, cast to the second
abbrev pub cast_item : Descr → Descr → List LeafValue → List LeafValue
cast_item (ScalarDescr from) to item = map (λ leaf. cast_value leaf.scalar (get_or item 0 (number (pos 0)))) (leaves_of to)
cast_item (RecordDescr from) to item = cast_values (leaves_of to) item
