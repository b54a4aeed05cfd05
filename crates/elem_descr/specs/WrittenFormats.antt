-- Writing a descriptor as a format text.
use Rattle.std.specs.Prelude.{ℕ, zero, suc, ◌+◌, ◌-◌, true, false, List, [], ◌++◌, codes, decimal}
use Rattle.elem_descr.specs.declared.scalar.Order.TheVariants.{Big}
use Rattle.elem_descr.specs.declared.scalar.Width.TheVariants.{Two, Four, Eight}
use Rattle.elem_descr.specs.declared.scalar.Scalar.{Scalar}
use Rattle.elem_descr.specs.declared.scalar.Scalar.TheVariants.{Bool as BoolScalar, Byte, Int, Bytes}
use Rattle.elem_descr.specs.declared.descr.Descr.{Descr}
use Rattle.elem_descr.specs.declared.descr.Descr.TheVariants.{Scalar as ScalarDescr, Record as RecordDescr}
use Rattle.elem_descr.specs.Encoding.{size}
use Rattle.elem_descr.specs.Fields.{Fields, no_more, scalar_field, record_field}

-- `>` before a big-endian integer of two or more bytes, and otherwise `<`
abbrev pub written_mark : Scalar → List ℕ
written_mark (Int signed width Big) = codes ">"
written_mark scalar = codes "<"

-- the letter of a scalar; letters of signed integers are lower case
abbrev pub written_letter : Scalar → List ℕ
written_letter BoolScalar = codes "?"
written_letter (Byte true) = codes "b"
written_letter (Byte false) = codes "B"
written_letter (Int true Two order) = codes "h"
written_letter (Int false Two order) = codes "H"
written_letter (Int true Four order) = codes "i"
written_letter (Int false Four order) = codes "I"
written_letter (Int true Eight order) = codes "q"
written_letter (Int false Eight order) = codes "Q"
written_letter (Bytes n) = codes "s"

-- only a byte string has a count
abbrev pub written_count : Scalar → List ℕ
written_count (Bytes n) = decimal n
written_count scalar = []

-- a scalar without its name
abbrev pub written_scalar : Scalar → List ℕ
written_scalar scalar = written_mark scalar ++ written_count scalar ++ written_letter scalar

-- `n` bytes of padding
abbrev pub written_pad : ℕ → List ℕ
written_pad zero = []
written_pad (suc n) = decimal (suc n) ++ codes "x"

-- the name after a member
abbrev pub written_name : List ℕ → List ℕ
written_name name = codes ":" ++ name ++ codes ":"

-- a record without its name
abbrev pub braced : List ℕ → List ℕ
braced text = codes "T{" ++ (text ++ codes "}")

-- the fields from byte `from` on, with the padding before each and after the last
abbrev pub written_fields : ℕ → Fields → ℕ → List ℕ
written_fields from no_more bytes = written_pad (bytes - from)
written_fields from (scalar_field name at scalar rest) bytes =
    written_pad (at - from) ++ (written_scalar scalar ++ (written_name name ++ written_fields (at + size scalar) rest bytes))
written_fields from (record_field name at size inner rest) bytes =
    written_pad (at - from) ++ (braced (written_fields 0 inner size) ++ (written_name name ++ written_fields (at + size) rest bytes))

-- the format text of a descriptor
abbrev pub written_format : Descr → List ℕ
written_format (ScalarDescr scalar) = written_scalar scalar
written_format (RecordDescr structure) = braced (written_fields 0 structure.fields structure.size)
