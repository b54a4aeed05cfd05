-- Two layouts with the same number of items, walked together: a run is cut wherever a run of the other layout ends.
use Rattle.std.specs.Prelude.{ℕ, ◌-◌, ◌==◌, if◌then◌else◌, pos, ◌+ℤ◌, ◌*ℤ◌, List, [], ◌∷◌, length, Option, Some, None}
use Rattle.std.proofs.Common.{suc, min}
use Rattle.shape_strides.specs.Words.{flat_map}
use Rattle.shape_strides.specs.declared.layout.Layout.{Layout}
use Rattle.shape_strides.specs.declared.runs.Run.{Run}
use Rattle.shape_strides.specs.declared.run_pairs.RunPair.{RunPair}
use Rattle.shape_strides.specs.Addresses.{natural}
use Rattle.shape_strides.specs.Runs.{run_offsets, runs}

-- the first n items of a run
abbrev pub run_front : ℕ → Run → Run
run_front n run = record { offset = run.offset; count = n; step = run.step }

-- the items of a run after the first n
abbrev pub run_after : ℕ → Run → Run
run_after n run = record { offset = natural (pos run.offset +ℤ run.step *ℤ pos n); count = run.count - n; step = run.step }

-- the runs `run ∷ runs` without the first n items of `run`
abbrev pub cut : ℕ → Run → List Run → List Run
cut n run runs = if run.count == n then runs else run_after n run ∷ runs

-- the number of items of the shorter of two runs
abbrev pub shorter : Run → Run → ℕ
shorter x y = min x.count y.count

-- The pairs of runs: each pair is as long as the shorter of the two current runs, and there are at most `most` pairs.
abbrev pub paired : ℕ → List Run → List Run → List RunPair
paired (suc most) (x ∷ xs) (y ∷ ys) = record { first = run_front (shorter x y) x; second = run_front (shorter x y) y } ∷ paired most (cut (shorter x y) x xs) (cut (shorter x y) y ys)
paired _ _ _ = []

-- the offsets of all items of runs
abbrev pub all_offsets : List Run → List ℕ
all_offsets runs = flat_map run_offsets runs

-- the pairs of two lists of runs. Each pair has at least one item, so there are no more pairs than items.
abbrev pub pairs : List Run → List Run → List RunPair
pairs xs ys = paired (length (all_offsets xs)) xs ys

-- the pairs of runs of two layouts
unfoldable pub run_pairs : Layout → Layout → List RunPair
run_pairs l m = pairs (runs l) (runs m)

-- the pairs that remain if these two runs are next, followed by `xs` and `ys`
abbrev pub pairs_left : Option RunPair → List Run → List Run → List RunPair
pairs_left None xs ys = []
pairs_left (Some pair) xs ys = pairs (pair.first ∷ xs) (pair.second ∷ ys)
