-- The kinds of scalars.
use Rattle.std.specs.Prelude.{Bool, true, false}
use Rattle.elem_descr.specs.declared.scalar.Order.TheVariants.{Little}
use Rattle.elem_descr.specs.declared.scalar.Scalar.{Scalar}
use Rattle.elem_descr.specs.declared.scalar.Scalar.TheVariants.{Bool as BoolScalar, Byte, Int, Bytes}

abbrev pub is_bool : Scalar → Bool
is_bool BoolScalar = true
is_bool _ = false

abbrev pub is_text : Scalar → Bool
is_text (Bytes n) = true
is_text _ = false

abbrev pub is_signed : Scalar → Bool
is_signed (Byte signed) = signed
is_signed (Int signed width order) = signed
is_signed _ = false

-- the same scalar in little-endian byte order
abbrev pub little : Scalar → Scalar
little (Int signed width order) = Int signed width Little
little scalar = scalar
