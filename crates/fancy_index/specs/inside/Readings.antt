-- The integers of an array, read by a table of offsets.
use Rattle.std.specs.Prelude.{◌+◌, ◌-◌, ◌≤◌, ℕ, ℤ, List, map, length, All}
use Rattle.fancy_index.specs.Words.{item_at, max_bytes}
use Rattle.fancy_index.specs.declared.fast.offset_tables.OffsetTable.{OffsetTable}
use Rattle.fancy_index.specs.declared.integers.Form.{Form}
use Rattle.fancy_index.specs.declared.index_arrays.Named.{Named}
use Rattle.fancy_index.specs.inside.Tables.{IsTableOf}
use Rattle.fancy_index.specs.inside.Words.{AreWords, word}

-- the integers in some columns of a row
abbrev pub cell_words : Form → List ℕ → ℕ → ℕ → List ℕ → List ℤ
cell_words form bytes row start columns = map (λ column. word form (item_at (row + column - start) form.width bytes)) columns

-- an item at the sum of two offsets, less the first offset, lies in a block of `len` bytes
pub record CellLies (len width row start column : ℕ) : Type 0 where
  pub from : start ≤ row + column
  pub few : row + column ≤ max_bytes + max_bytes
  pub end : row + column - start + width ≤ len

-- the same for each of some columns
abbrev pub CellsLie : List ℕ → ℕ → ℕ → ℕ → List ℕ → Type 0
CellsLie bytes width row start columns = All (CellLies (length bytes) width row start) columns

-- the form of the integers of an array, and the table of its layout
pub record IsReading (named : Named) (form : Form) (table : OffsetTable) : Type 0 where
  pub words : AreWords form named.array.descr.now
  pub tabled : IsTableOf named.array.layout.now table
