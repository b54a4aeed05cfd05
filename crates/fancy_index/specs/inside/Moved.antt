-- The offsets of a plan: those of the inner axes, moved to each place of the outer axes and by each shift.
use Rattle.std.specs.Prelude.{◌≡◌, ◌≤◌, ◌<◌, ℕ, ◌+◌, ◌-◌, List, map, length, All}
use Rattle.fancy_index.specs.Words.{flat_map, EachWithin, Layout, Run, offsets, max_bytes, run_offsets}

-- the offset that is as far from `start` as `offset` is from `base`
abbrev pub moved_offset : ℕ → ℕ → ℕ → ℕ
moved_offset base start offset = start + offset - base

-- the offsets of the inner items at a place of the outer axes: moved by one shift, and by each shift
abbrev pub shifted : ℕ → List ℕ → ℕ → ℕ → List ℕ
shifted base inner place shift = map (moved_offset base (moved_offset base place shift)) inner

abbrev pub shifted_all : ℕ → List ℕ → List ℕ → ℕ → List ℕ
shifted_all base shifts inner place = flat_map (shifted base inner place) shifts

-- and at each place of the outer axes
abbrev pub moved_all : ℕ → List ℕ → List ℕ → List ℕ → List ℕ
moved_all base outer shifts inner = flat_map (shifted_all base shifts inner) outer

-- an offset can be moved from `base` to `start`: the result is not below 0, and is within the limit of a buffer
pub record IsMoved (base start offset : ℕ) : Type 0 where
  pub from : base ≤ start + offset
  pub below : start + offset < base + max_bytes

-- a shift gives a start at a place, and each inner item can be moved to that start
pub record IsStart (base : ℕ) (inner : List ℕ) (place shift : ℕ) : Type 0 where
  pub start : IsMoved base place shift
  pub items : All (IsMoved base (moved_offset base place shift)) inner

abbrev pub AreStarts : ℕ → List ℕ → List ℕ → ℕ → Type 0
AreStarts base inner shifts place = All (IsStart base inner place) shifts

-- the offsets of the items of a plan, and that each of them is within the limit
abbrev pub laid_offsets : Layout → List ℕ → Layout → List ℕ
laid_offsets outer shifts inner = moved_all inner.offset (offsets outer) shifts (offsets inner)

abbrev pub AllStart : Layout → List ℕ → Layout → Type 0
AllStart outer shifts inner = All (AreStarts inner.offset (offsets inner) shifts) (offsets outer)

-- a run whose items have these offsets
pub record IsRunOf (offsets : List ℕ) (run : Run) : Type 0 where
  pub same : run_offsets run ≡ offsets
  pub count : run.count ≡ length offsets
  pub within : (len width : ℕ) → All (λ offset. offset + width ≤ len) offsets → EachWithin len run.offset run.step width run.count
