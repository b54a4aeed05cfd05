-- Descriptors: a scalar, or a record whose fields, in the order of their offsets, are scalars and records.
use Rattle.std.specs.Prelude.{◌≤◌, ◌+◌, ℕ, IsTrue, List, [], ◌∷◌, length, map, max}
use Rattle.elem_descr.specs.Words.{IsDistinct, list_all, bytes_eq}
use Rattle.elem_descr.specs.declared.descr.Field.{Field}
use Rattle.elem_descr.specs.declared.descr.Descr.{Descr}
use Rattle.elem_descr.specs.declared.descr.Descr.TheVariants.{Scalar as ScalarDescr, Record as RecordDescr}
use Rattle.elem_descr.specs.Encoding.{size}
use Rattle.elem_descr.specs.Fields.{Fields, no_more, scalar_field, record_field, Structure}
use Rattle.elem_descr.specs.Names.{is_legal_name}

-- the fields as a list
abbrev pub fields_of : Fields → List Field
fields_of no_more = []
fields_of (scalar_field name at scalar rest) = record { name = name; at = at; descr = ScalarDescr scalar } ∷ fields_of rest
fields_of (record_field name at size inner rest) = record { name = name; at = at; descr = RecordDescr (record { size = size; fields = inner }) } ∷ fields_of rest

-- the fields `rest` with one more field in front
abbrev pub before : List ℕ → ℕ → Descr → Fields → Fields
before name at (ScalarDescr scalar) rest = scalar_field name at scalar rest
before name at (RecordDescr structure) rest = record_field name at structure.size structure.fields rest

-- the fields of a list: the inverse of `fields_of`
abbrev pub listed : List Field → Fields
listed [] = no_more
listed (field ∷ fields) = before field.name field.at field.descr (listed fields)

-- how deep records are nested, the outermost included: 1 if all fields are scalars
abbrev pub depth : Fields → ℕ
depth no_more = 1
depth (scalar_field name at scalar rest) = depth rest
depth (record_field name at size inner rest) = max (1 + depth inner) (depth rest)

-- the number of scalars, including those of records within
abbrev pub leaf_count : Fields → ℕ
leaf_count no_more = 0
leaf_count (scalar_field name at scalar rest) = 1 + leaf_count rest
leaf_count (record_field name at size inner rest) = leaf_count inner + leaf_count rest

-- The first field begins at `from` or later, and each other field at or after the end of the one before it. Each has at
-- least one byte, and the last ends at or before `bytes`. The same holds in each record within.
abbrev pub InOrder : ℕ → Fields → ℕ → Type 0
InOrder from no_more bytes = from ≤ bytes
InOrder from (scalar_field name at scalar rest) bytes = (from ≤ at) × (1 ≤ size scalar) × InOrder (at + size scalar) rest bytes
InOrder from (record_field name at size inner rest) bytes = (from ≤ at) × (1 ≤ size) × InOrder 0 inner size × InOrder (at + size) rest bytes

abbrev pub names_of : Fields → List (List ℕ)
names_of fields = map (λ field. field.name) (fields_of fields)

-- 1 to 64 fields, whose names are legal and distinct
pub record AreNamed (fields : Fields) : Type 0 where
  pub some : 1 ≤ length (fields_of fields)
  pub few : length (fields_of fields) ≤ 64
  pub named : IsTrue (list_all is_legal_name (names_of fields))
  pub distinct : IsDistinct bytes_eq (names_of fields)

-- the same holds in each record within
abbrev pub AreNamedWithin : Fields → Type 0
AreNamedWithin no_more = Unit {0}
AreNamedWithin (scalar_field name at scalar rest) = AreNamedWithin rest
AreNamedWithin (record_field name at size inner rest) = AreNamed inner × AreNamedWithin inner × AreNamedWithin rest

pub record IsLegal (s : Structure) : Type 0 where
  pub small : s.size ≤ 65536
  pub shallow : depth s.fields ≤ 4
  pub few : leaf_count s.fields ≤ 2048
  pub in_order : InOrder 0 s.fields s.size
  pub named : AreNamed s.fields
  pub within : AreNamedWithin s.fields
