-- The fields of a record.
use Rattle.std.specs.Prelude.{◌+◌, ℕ, List}
use Rattle.elem_descr.specs.declared.scalar.Scalar.{Scalar}

-- The fields in order, each with its name and its offset in the record. A field is a scalar, or a record with its own
-- size in bytes and its own fields.
pub data Fields : Type 0 where
  no_more : Fields
  scalar_field : List ℕ → ℕ → Scalar → Fields → Fields
  record_field : List ℕ → ℕ → ℕ → Fields → Fields → Fields

-- a record: the number of bytes of an item, and the fields
pub record Structure : Type 0 where
  pub size : ℕ
  pub fields : Fields

-- the number of fields, including those of records within
abbrev pub total : Fields → ℕ
total no_more = 0
total (scalar_field name at scalar rest) = 1 + total rest
total (record_field name at size inner rest) = 1 + total inner + total rest
