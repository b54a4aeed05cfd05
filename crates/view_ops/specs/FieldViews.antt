-- Views of one field of each item.
use Rattle.std.specs.Prelude.{◌≡◌, ℕ, ◌+◌, map, Option, Some, None, Result, Ok, Err}
use Rattle.view_ops.specs.Words.{Refusal, NoSuchField, OutOfMemory, Descr, Field, item_size, field_at, Layout, offsets, Fits, IsNested}

-- A layout has this field of each item of an older layout, whose items have `item` bytes.
pub record IsFieldOf (old new : Layout) (item : ℕ) (field : Field) : Type 0 where
  pub shape : new.shape ≡ old.shape
  pub places : offsets new ≡ map (λ offset. offset + field.at) (offsets old)
  pub fits : (len : ℕ) → Fits old len item → Fits new len (item_size field.descr)
  pub nested : IsNested (offsets old) item → IsNested (offsets new) (item_size field.descr)

-- If there is a number, the result is the layout of the field with that number, and it is refused only if memory runs
-- out. Otherwise the refusal is `NoSuchField`.
abbrev pub GivesField : Layout → Descr → Option ℕ → Result Layout Refusal → Type 0
GivesField old descr (Some k) (Ok new) = IsFieldOf old new (item_size descr) (field_at descr k)
GivesField old descr None (Ok new) = ⊥
GivesField old descr (Some k) (Err refusal) = refusal ≡ OutOfMemory
GivesField old descr None (Err refusal) = refusal ≡ NoSuchField
