-- A record within a record has fewer fields in total.
use Rattle.std.specs.Prelude.{◌≤◌, ◌+◌, ℕ, List, [], ◌∷◌, max}
use Rattle.std.proofs.Common.{arith}
use Rattle.elem_descr.specs.Words.{most}
use Rattle.elem_descr.specs.declared.descr.Field.{Field}
use Rattle.elem_descr.specs.declared.descr.Descr.{Descr}
use Rattle.elem_descr.specs.declared.descr.Descr.TheVariants.{Scalar as ScalarDescr, Record as RecordDescr}
use Rattle.elem_descr.specs.declared.descr.Record.TheDeep.{deep-Field, deep-Descr}
use Rattle.elem_descr.specs.Fields.{Fields, total}
use Rattle.elem_descr.specs.Descriptors.{before, listed}

within_falls : (name : List ℕ) (at : ℕ) (descr : Descr) (rest : Fields) → deep-Descr descr ≤ 1 + total (before name at descr rest)
within_falls name at (ScalarDescr scalar) rest = omega arith
within_falls name at (RecordDescr structure) rest = omega arith

before_more : (name : List ℕ) (at : ℕ) (descr : Descr) (rest : Fields) → total rest ≤ total (before name at descr rest)
before_more name at (ScalarDescr scalar) rest = omega arith
before_more name at (RecordDescr structure) rest = omega arith

pub total_falls : (fields : List Field) → max (most deep-Field fields) 0 ≤ 1 + total (listed fields)
total_falls [] = omega arith
total_falls (field ∷ fields) =
    omega (arith, total_falls fields, within_falls field.name field.at field.descr (listed fields), before_more field.name field.at field.descr (listed fields))
