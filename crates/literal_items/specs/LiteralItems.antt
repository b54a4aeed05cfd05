-- Literals as items of a descriptor.
use Rattle.std.specs.Prelude.{ℕ, ℤ, pos, Bool, true, false, not, ◌&&◌, List, [], ◌∷◌, ◌++◌, map, take, Result, Ok}
use Rattle.literal_items.specs.Words.{list_all, Refusal, LiteralOutOfRange, NoSuchCast, Scalar, Descr, ◌>>=◌, check, LeafValue, number, text, is_value, wrap, without_nuls, Fields, no_more, scalar_field, record_field, leaves_of, ScalarLiteral, Integer, Boolean, Bytes, Literal, Values, no_values, scalar_value, record_value, BoolScalar, BytesScalar, ScalarDescr, RecordDescr, ScalarOf, RecordOf}

-- One value

abbrev pub is_text_literal : ScalarLiteral → Bool
is_text_literal (Bytes bytes) = true
is_text_literal _ = false

-- the number that a literal means: True is 1 and False is 0
abbrev pub literal_number : ScalarLiteral → ℤ
literal_number (Integer value) = value
literal_number (Boolean true) = pos 1
literal_number (Boolean false) = pos 0
literal_number (Bytes bytes) = pos 0

abbrev pub literal_bytes : ScalarLiteral → List ℕ
literal_bytes (Bytes bytes) = bytes
literal_bytes _ = []

-- whether a literal can be a value of a scalar: bytes for a byte string, and a number or a bool for the others
abbrev pub is_castable : Scalar → ScalarLiteral → Bool
is_castable (BytesScalar n) literal = is_text_literal literal
is_castable _ literal = not (is_text_literal literal)

-- whether a literal is in range for a scalar. Every literal is in range for a bool or a byte string.
abbrev pub is_in_range : Scalar → ScalarLiteral → Bool
is_in_range BoolScalar literal = true
is_in_range (BytesScalar n) literal = true
is_in_range scalar literal = is_value scalar (literal_number literal)

-- The value that a literal gives to a scalar. A bool is whether the number is not 0. Bytes are cut to the length, and
-- then lose the NULs at their end.
abbrev pub leaf_value : Scalar → ScalarLiteral → LeafValue
leaf_value (BytesScalar n) literal = text (without_nuls (take n (literal_bytes literal)))
leaf_value scalar literal = number (wrap scalar (literal_number literal))

-- One item

-- Whether the values match the fields one by one, and each scalar passes a test with its field: a scalar matches a
-- scalar, and a record matches a record with the same number of fields.
abbrev pub stand_for : (Scalar → ScalarLiteral → Bool) → Fields → Values → Bool
stand_for test no_more no_values = true
stand_for test (scalar_field name at scalar fields) (scalar_value literal values) = test scalar literal && stand_for test fields values
stand_for test (record_field name at size inner fields) (record_value literals values) = stand_for test inner literals && stand_for test fields values
stand_for test _ _ = false

-- whether values can be those of the fields
abbrev pub can_hold : Fields → Values → Bool
can_hold = stand_for is_castable

-- the values of the fields, leaf by leaf
abbrev pub field_values : Fields → Values → List LeafValue
field_values (scalar_field name at scalar fields) (scalar_value literal values) = leaf_value scalar literal ∷ field_values fields values
field_values (record_field name at size inner fields) (record_value literals values) = field_values inner literals ++ field_values fields values
field_values _ _ = []

-- Whether a literal matches an item of a descriptor, and each scalar passes a test: a scalar literal goes to every
-- leaf, and the values of a record literal go to the fields of a record.
abbrev pub item_passes : (Scalar → ScalarLiteral → Bool) → Descr → Literal → Bool
item_passes test descr (ScalarOf literal) = list_all (λ leaf. test leaf.scalar literal) (leaves_of descr)
item_passes test (RecordDescr structure) (RecordOf literals) = stand_for test structure.fields literals
item_passes test (ScalarDescr scalar) (RecordOf literals) = false

-- whether a literal can be an item, and whether it is in range as one
abbrev pub can_be_item : Descr → Literal → Bool
can_be_item = item_passes is_castable

abbrev pub is_item_in_range : Descr → Literal → Bool
is_item_in_range = item_passes is_in_range

abbrev pub values_of : Descr → Literal → List LeafValue
values_of descr (ScalarOf literal) = map (λ leaf. leaf_value leaf.scalar literal) (leaves_of descr)
values_of (RecordDescr structure) (RecordOf literals) = field_values structure.fields literals
values_of (ScalarDescr scalar) (RecordOf literals) = []

-- the item that a literal means, or the refusal
unfoldable pub item_value : Descr → Literal → Result (List LeafValue) Refusal
item_value descr literal = do
  _ ← check (can_be_item descr literal) NoSuchCast
  _ ← check (is_item_in_range descr literal) LiteralOutOfRange
  Ok (values_of descr literal)

-- Many items

-- The items that literals mean. A literal that cannot be an item is refused before any that is out of range.
unfoldable pub item_values : Descr → List Literal → Result (List (List LeafValue)) Refusal
item_values descr literals = do
  _ ← check (list_all (can_be_item descr) literals) NoSuchCast
  _ ← check (list_all (is_item_in_range descr) literals) LiteralOutOfRange
  Ok (map (values_of descr) literals)
