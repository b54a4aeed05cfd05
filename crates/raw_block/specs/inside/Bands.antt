-- Bands of a grid: some of its rows.
use Rattle.std.specs.Prelude.{ℕ}
use Rattle.raw_block.specs.Bytes.{Grid, place}

-- `rows` rows of a grid, starting with row `first`
abbrev pub band : Grid → ℕ → ℕ → Grid
band g first rows = record { at = place g.at g.row_step first; row_step = g.row_step; column_step = g.column_step; rows = rows; columns = g.columns }
