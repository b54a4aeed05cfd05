-- The invariant of a record.
use Rattle.std.specs.Prelude.{◌≡◌, ℕ, List}
use Rattle.elem_descr.specs.declared.descr.Field.{Field}
use Rattle.elem_descr.specs.declared.descr.Leaf.{Leaf}
use Rattle.elem_descr.specs.Descriptors.{IsLegal, listed}
use Rattle.elem_descr.specs.Items.{leaves_from}

-- The record is legal, and `leaves` are the leaves of its fields.
pub record IsRecord (size : ℕ) (fields : List Field) (leaves : List Leaf) : Type 0 where
  pub legal : IsLegal (record { size = size; fields = listed fields })
  pub held : leaves ≡ leaves_from 0 (listed fields)
