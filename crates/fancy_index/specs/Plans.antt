-- Plans: where in a buffer the items are that an index list with arrays selects.
use Rattle.std.specs.Prelude.{◌≡◌, ◌⊎◌, ℕ, List, [], ◌∷◌, Result, Ok, Err}
use Rattle.fancy_index.specs.Words.{put, Refusal, OutOfMemory, Layout, IsIndex, offsets, View, view_through}

-- what a contract sees of a plan: its shape, and the offsets of its items in C order
pub record Planned : Type 0 where
  pub shape : List ℕ
  pub offsets : List ℕ

-- the bytes after the item is written at each of the offsets, one after the other
abbrev pub put_each : List ℕ → List ℕ → List ℕ → List ℕ
put_each [] item bytes = bytes
put_each (offset ∷ offsets) item bytes = put_each offsets item (put offset item bytes)

-- the plan has the items of the layout that the view shows
pub record IsPlanOf (layout : Layout) (plan : Planned) (view : View) : Type 0 where
  pub shape : plan.shape ≡ view.shape
  pub leads : (index : List ℕ) → IsIndex view.shape index → IsIndex layout.shape (view.leads index)
  pub places : plan.offsets ≡ view_through (offsets layout) layout.shape view.shape view.leads

-- A plan must be a plan of the view `there`. A refusal must be the refusal `there`, unless memory ran out.
abbrev pub GivesPlan : Layout → Result Planned Refusal → Result View Refusal → Type 0
GivesPlan layout (Ok plan) (Ok view) = IsPlanOf layout plan view
GivesPlan layout (Ok plan) (Err refusal) = ⊥
GivesPlan layout (Err refusal) there = (refusal ≡ OutOfMemory) ⊎ (there ≡ Err refusal)
