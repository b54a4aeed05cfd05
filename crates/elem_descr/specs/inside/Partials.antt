-- What holds for a record being built, and for one that has been read.
use Rattle.std.specs.Prelude.{◌≤◌, ◌+◌, ℕ, IsTrue, length, map}
use Rattle.elem_descr.specs.Words.{IsDistinct, list_all, bytes_eq}
use Rattle.elem_descr.specs.declared.descr.Descr.TheVariants.{Record as RecordDescr}
use Rattle.elem_descr.specs.declared.format_text.record.Body.{Body}
use Rattle.elem_descr.specs.Names.{is_legal_name}
use Rattle.elem_descr.specs.Descriptors.{InOrder, AreNamedWithin, listed, depth, leaf_count}
use Rattle.elem_descr.specs.RecordBuilding.{Partial, IsShallow, max_depth, max_fields, max_leaves, max_size}

pub record IsPartial (p : Partial) : Type 0 where
  pub few : length p.fields ≤ max_fields
  pub small : p.size ≤ max_size
  pub aligned : (1 ≤ p.alignment) × (p.alignment ≤ 8)
  pub in_order : InOrder 0 (listed p.fields) p.size
  pub named : IsTrue (list_all is_legal_name (map (λ field. field.name) p.fields))
  pub distinct : IsDistinct bytes_eq (map (λ field. field.name) p.fields)
  pub within : AreNamedWithin (listed p.fields)
  pub deep : 1 + p.levels ≤ max_depth
  pub shallow : depth (listed p.fields) ≤ 1 + p.levels
  pub counted : leaf_count (listed p.fields) ≤ p.leaves
  pub few_leaves : p.leaves ≤ max_leaves

-- a record that has been read, nested at most `levels` deep
pub record IsBody (levels : ℕ) (body : Body) : Type 0 where
  pub shallow : IsShallow levels (RecordDescr body.whole)
  pub aligned : (1 ≤ body.alignment) × (body.alignment ≤ 8)
