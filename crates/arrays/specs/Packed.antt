-- Adjacent items.
use Rattle.std.proofs.Common.{ℕ}
use Rattle.std.specs.Prelude.{pos, List}
use Rattle.arrays.specs.Words.{Run, run_offsets}

-- n adjacent items of `width` bytes, starting at `at`
abbrev pub packed_run : ℕ → ℕ → ℕ → Run
packed_run at width n = record { offset = at; count = n; step = pos width }

-- the offsets of these items
abbrev pub row_offsets : ℕ → ℕ → ℕ → List ℕ
row_offsets at width n = run_offsets (packed_run at width n)
