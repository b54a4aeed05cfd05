-- Casts of single fields.
use Rattle.std.specs.Prelude.{Bool, false}
use Rattle.elementwise.specs.Words.{Descr, ScalarDescr, RecordDescr}
use Rattle.elementwise.specs.Casts.{can_cast_scalar, can_cast_fields}

-- whether one field can be cast to another
abbrev pub can_cast_field : Descr → Descr → Bool
can_cast_field (ScalarDescr from) (ScalarDescr to) = can_cast_scalar from to
can_cast_field (RecordDescr from) (RecordDescr to) = can_cast_fields from.fields to.fields
can_cast_field _ _ = false
