-- Loops over short rows, place by place.
use Rattle.std.proofs.Common.{◌≡◌, ℕ, ◌+◌, ◌<◌, ◌≤◌, List, [], ◌++◌, get_or, drop, ap, arith}
use Rattle.fancy_index.proofs.Words.{drop_more, drop_all, offsets, run_offsets, length-run_offsets, moved_all, row_at, ShortRows}
use Rattle.fancy_index.proofs.Passes.{split-places}

-- the offsets of the rows from the `k`-th place on
abbrev pub rows_from : ShortRows → ℕ → List ℕ
rows_from rows k = let axes = rows.axes.now in moved_all axes.inner.offset (drop k (run_offsets rows.places)) axes.shifts.items (offsets axes.inner)

pub split-rows : (rows : ShortRows) (k : ℕ) (row : List ℕ) → k < rows.places.count → row ≡ row_at rows k → rows_from rows k ≡ row ++ rows_from rows (k + 1)
split-rows rows k row low is =
    let axes = rows.axes.now in
    let places = run_offsets rows.places in
    split-places axes.inner.offset (offsets axes.inner) axes.shifts.items (drop k places) (drop (k + 1) places) row (get_or places k 0) (drop_more places k 0 (omega (arith, length-run_offsets rows.places, low))) is

pub no-rows : (rows : ShortRows) (k : ℕ) → rows.places.count ≤ k → rows_from rows k ≡ []
no-rows rows k all =
    let axes = rows.axes.now in
    ap (λ l. moved_all axes.inner.offset l axes.shifts.items (offsets axes.inner)) (drop_all k (run_offsets rows.places) (omega (arith, length-run_offsets rows.places, all)))
