-- Views: the same items with another shape.
use Rattle.std.specs.Prelude.{◌≡◌, ◌<◌, ℕ, ◌⊎◌, List, map, length, slice_index, All, Result, Ok, Err}
use Rattle.view_ops.specs.Words.{Refusal, OutOfMemory, Layout, indexes, rank, IsIndex, offsets, Fits, IsNested}

-- The list of a view of an array that has this list and shape: the entry at each index of the new shape is the entry of
-- the array at the index that `leads` gives. The list can hold byte offsets or places.
abbrev pub view_through : List ℕ → List ℕ → List ℕ → (List ℕ → List ℕ) → List ℕ
view_through list shape new leads = map (λ index. slice_index list (rank shape (leads index))) (indexes new)

-- a view: its shape, and the function from its indexes to the indexes of the old array
pub record View : Type 0 where
  pub shape : List ℕ
  pub leads : List ℕ → List ℕ

-- The layout `new` is this view of `old`.
pub record IsViewOf (old new : Layout) (view : View) : Type 0 where
  pub shape : new.shape ≡ view.shape
  pub leads : (index : List ℕ) → IsIndex view.shape index → IsIndex old.shape (view.leads index)
  pub inside : All (λ index. rank old.shape (view.leads index) < length (offsets old)) (indexes view.shape)
  pub places : offsets new ≡ view_through (offsets old) old.shape view.shape view.leads
  pub fits : (len item : ℕ) → Fits old len item → Fits new len item

-- If no two items of the old layout overlap, no two items of the new one do.
abbrev pub KeepsNested : Layout → Layout → Type 0
KeepsNested old new = (item : ℕ) → IsNested (offsets old) item → IsNested (offsets new) item

-- The result is a layout of the view, or the same refusal, unless memory runs out.
abbrev pub GivesView : Layout → Result Layout Refusal → Result View Refusal → Type 0
GivesView old (Ok new) (Ok view) = IsViewOf old new view
GivesView old (Ok new) (Err refusal) = ⊥
GivesView old (Err refusal) there = (refusal ≡ OutOfMemory) ⊎ (there ≡ Err refusal)
