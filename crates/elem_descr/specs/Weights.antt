-- The measure that decreases in a recursion over the fields of a descriptor.
use Rattle.std.proofs.Common.{ℕ, ◌+◌}
use Rattle.elem_descr.specs.declared.descr.Descr.{Descr}
use Rattle.elem_descr.specs.declared.descr.Descr.TheVariants.{Scalar as ScalarDescr, Record as RecordDescr}
use Rattle.elem_descr.specs.Fields.{total}

-- the number of fields in a descriptor, at all levels, and one more if it is a record
abbrev pub weight : Descr → ℕ
weight (ScalarDescr scalar) = 0
weight (RecordDescr structure) = 1 + total structure.fields
