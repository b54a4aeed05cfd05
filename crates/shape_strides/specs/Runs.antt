-- A layout as runs. In a run each item lies one step after the previous one.
use Rattle.std.specs.Prelude.{◌≡◌, ℕ, ◌==◌, if◌then◌else◌, ℤ, pos, ◌+ℤ◌, List, [], ◌∷◌, map}
use Rattle.shape_strides.specs.Words.{flat_map, numbers_from}
use Rattle.shape_strides.specs.declared.layout.Layout.{Layout}
use Rattle.shape_strides.specs.declared.single_run.StridedAxis.{StridedAxis}
use Rattle.shape_strides.specs.declared.runs.Run.{Run}
use Rattle.shape_strides.specs.Indexes.{count}
use Rattle.shape_strides.specs.Addresses.{LieWithin, natural}
use Rattle.shape_strides.specs.Joined.{strided_axes, all_joined}

-- the offsets of a run's items
abbrev pub run_offsets : Run → List ℕ
run_offsets run = map natural (numbers_from (pos run.offset) run.step run.count)

-- every item of the run, of `item` bytes, lies within the first `len` bytes
abbrev pub RunWithin : ℕ → ℕ → Run → Type 0
RunWithin len item run = LieWithin (run.count ∷ []) (run.step ∷ []) run.offset len item

-- the run along an axis, starting at `offset`
abbrev pub run_along : StridedAxis → ℕ → Run
run_along axis offset = record { offset = offset; count = axis.len; step = axis.stride }

-- The runs of axes, starting at address `at`: each run goes along the last axis, and the axes before it lead from one
-- run to the next. Without axes there is one run of one item.
abbrev pub runs_from : ℤ → List StridedAxis → List Run
runs_from at [] = record { offset = natural at; count = 1; step = pos 0 } ∷ []
runs_from at (axis ∷ []) = run_along axis (natural at) ∷ []
runs_from at (axis ∷ inner ∷ axes) = flat_map (λ next. runs_from next (inner ∷ axes)) (numbers_from at axis.stride axis.len)

-- the runs of a layout, over its joined axes. A layout without items has no runs.
unfoldable pub runs : Layout → List Run
runs l = if count l.shape == 0 then [] else runs_from (pos l.offset) (all_joined (strided_axes l.strides l.shape))

-- Each number is the previous one plus `step`.
abbrev pub GoesBy : ℤ → List ℕ → Type 0
GoesBy step (a ∷ b ∷ numbers) = (pos b ≡ pos a +ℤ step) × GoesBy step (b ∷ numbers)
GoesBy step _ = Unit {0}
