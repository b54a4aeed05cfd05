-- The items of a descriptor: one value per leaf.
use Rattle.std.specs.Prelude.{◌≡◌, ◌+◌, ◌-◌, ◌<◌, ◌≤◌, ℕ, ℤ, pos, List, [], ◌∷◌, ◌++◌, length, map, position, take, Option}
use Rattle.std.proofs.Common.{get_or, drop, replicate}
use Rattle.elem_descr.specs.Words.{bytes_eq}
use Rattle.elem_descr.specs.declared.descr.Descr.{Descr}
use Rattle.elem_descr.specs.declared.descr.Descr.TheVariants.{Scalar as ScalarDescr, Record as RecordDescr}
use Rattle.elem_descr.specs.declared.descr.Field.{Field}
use Rattle.elem_descr.specs.declared.descr.Leaf.{Leaf}
use Rattle.elem_descr.specs.declared.scalar.Scalar.TheVariants.{Bool as BoolScalar}
use Rattle.elem_descr.specs.Values.{LeafValue, number}
use Rattle.elem_descr.specs.Encoding.{size, decode, number_of, encode}
use Rattle.elem_descr.specs.Fields.{Fields, no_more, scalar_field, record_field}
use Rattle.elem_descr.specs.Descriptors.{fields_of}

-- the number of bytes of an item
abbrev pub item_size : Descr → ℕ
item_size (ScalarDescr scalar) = size scalar
item_size (RecordDescr structure) = structure.size

-- the scalars of fields, with their offsets, if the record begins at `from`
abbrev pub leaves_from : ℕ → Fields → List Leaf
leaves_from from no_more = []
leaves_from from (scalar_field name at scalar rest) = record { scalar = scalar; at = from + at } ∷ leaves_from from rest
leaves_from from (record_field name at size inner rest) = leaves_from (from + at) inner ++ leaves_from from rest

-- the leaves of an item: a scalar has one leaf, at offset 0
abbrev pub leaves_of : Descr → List Leaf
leaves_of (ScalarDescr scalar) = record { scalar = scalar; at = 0 } ∷ []
leaves_of (RecordDescr structure) = leaves_from 0 structure.fields

abbrev pub no_leaf : Leaf
no_leaf = record { scalar = BoolScalar; at = 0 }

-- a leaf moved by `by` bytes
abbrev pub moved_leaf : ℕ → Leaf → Leaf
moved_leaf by leaf = record { scalar = leaf.scalar; at = by + leaf.at }

-- the `k`-th leaf, counted from 0
abbrev pub leaf_at : Descr → ℕ → Leaf
leaf_at descr k = get_or (leaves_of descr) k no_leaf

-- The first leaf begins at `from` or later, and each other leaf at or after the end of the one before it. Each has at
-- least one byte, and the last ends at or before `bytes`.
abbrev pub AreInOrder : ℕ → List Leaf → ℕ → Type 0
AreInOrder from [] bytes = from ≤ bytes
AreInOrder from (leaf ∷ leaves) bytes = (from ≤ leaf.at) × (1 ≤ size leaf.scalar) × AreInOrder (leaf.at + size leaf.scalar) leaves bytes

-- Each leaf has at least one byte, ends within the item, and begins at or after the end of every leaf before it.
pub record LeavesInOrder (descr : Descr) : Type 0 where
  pub some : (k : ℕ) → k < length (leaves_of descr) → 1 ≤ size (leaf_at descr k).scalar
  pub within : (k : ℕ) → k < length (leaves_of descr) → (leaf_at descr k).at + size (leaf_at descr k).scalar ≤ item_size descr
  pub apart : (j k : ℕ) → j < k → k < length (leaves_of descr) → (leaf_at descr j).at + size (leaf_at descr j).scalar ≤ (leaf_at descr k).at

-- two element types with the same layout: the same number of bytes, and the same leaves at the same offsets
pub record AreAlike (a b : Descr) : Type 0 where
  pub leaves : leaves_of a ≡ leaves_of b
  pub size : item_size a ≡ item_size b

-- the fields of a record; a scalar has none
abbrev pub fields : Descr → List Field
fields (ScalarDescr scalar) = []
fields (RecordDescr structure) = fields_of structure.fields

-- the position of the field with this name, if there is one
abbrev pub field_of : Descr → List ℕ → Option ℕ
field_of descr name = position (λ field. bytes_eq field.name name) (fields descr)

-- the number of leaves of all these fields
abbrev pub leaves_in : List Field → ℕ
leaves_in [] = 0
leaves_in (field ∷ fields) = length (leaves_of field.descr) + leaves_in fields

abbrev pub no_field : Field
no_field = record { name = []; at = 0; descr = ScalarDescr BoolScalar }

-- the `k`-th field, counted from 0
abbrev pub field_at : Descr → ℕ → Field
field_at descr k = get_or (fields descr) k no_field

-- the leaves of the `k`-th field: the number of leaves before them, and how many they are
abbrev pub field_leaves : Descr → ℕ → ℕ × ℕ
field_leaves descr k = (leaves_in (take k (fields descr)), length (leaves_of (field_at descr k).descr))

-- the values that the bytes of an item mean, one per leaf; bytes that belong to no leaf are ignored
abbrev pub decode_item : Descr → List ℕ → List LeafValue
decode_item descr bytes = map (λ leaf. decode leaf.scalar (take (size leaf.scalar) (drop leaf.at bytes))) (leaves_of descr)

-- the value of an item of a scalar
abbrev pub value_in : List LeafValue → LeafValue
value_in item = get_or item 0 (number (pos 0))

-- that value as a number
abbrev pub item_number : List LeafValue → ℤ
item_number item = number_of (value_in item)

-- the bytes from `from` up to `bytes`: the value of each leaf at its offset, and zeros elsewhere
abbrev pub encode_from : ℕ → List Leaf → List LeafValue → ℕ → List ℕ
encode_from from (leaf ∷ leaves) (value ∷ values) bytes =
    replicate (leaf.at - from) 0 ++ encode leaf.scalar value ++ encode_from (leaf.at + size leaf.scalar) leaves values bytes
encode_from from _ _ bytes = replicate (bytes - from) 0

-- the bytes of an item with these values
abbrev pub encode_item : Descr → List LeafValue → List ℕ
encode_item descr values = encode_from 0 (leaves_of descr) values (item_size descr)
