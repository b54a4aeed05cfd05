-- The integers of an array at the offsets of a table.
use Rattle.std.proofs.Common.{◌≡◌, ◌⊎◌, inl, inr, ℕ, ◌+◌, ◌-◌, ◌*◌, ◌/◌, ◌%◌, ◌<◌, ◌≤◌, List, length, get_or, take, drop, sym, ap, subst, ◌∙◌, arith, mul-le-mul_right, pos}
use Rattle.std.proofs.lemmas.Nat.{mul-add-lt}
use Rattle.fancy_index.proofs.Words.{get_or-map, get_or-take, get_or-drop, get_or_default, length-map, mid_len, mod-lt, cases_lt, div-add-mod', item_at, offsets, number_from, word, Form}
use Rattle.fancy_index.specs.declared.fast.offset_tables.OffsetTable.{OffsetTable}
use Rattle.fancy_index.specs.declared.index_arrays.Named.{Named}
use Rattle.fancy_index.specs.inside.Items.{numbers_in}
use Rattle.fancy_index.specs.inside.Tables.{InCells, InRows}
use Rattle.fancy_index.proofs.TableLaws.{same-row}
use Rattle.fancy_index.specs.inside.Readings.{CellLies, CellsLie, IsReading, cell_words}

-- an item of a table is in one of its rows
pub row-below : (k r c : ℕ) → k < r * c → (k / c < r) ⊎ (r ≤ k / c) → k / c < r
row-below k r c below (inl low) = low
row-below k r c below (inr high) = absurd (omega (arith, mul-le-mul_right c high, div-add-mod' k c, below))

-- ---- which items were read

pub in-rows : (columns step first row from end k : ℕ) → row % step ≡ first → InRows columns step first from end k × (k / columns < row + step) → (k / columns < row) ⊎ (row ≤ k / columns) →
    (InRows columns step first from end k × (k / columns < row)) ⊎ InCells columns row from end k
in-rows columns step first row from end k near in-k (inl below) = inl (in-k.0, below)
in-rows columns step first row from end k near in-k (inr above) =
    inr (record { in_row = same-row step first row (k / columns) near in-k.0.in_row above in-k.1 (cases_lt (row / step) (k / columns / step)); low = in-k.0.low; high = in-k.0.high })

pub in-columns : (columns step first from end k : ℕ) → InRows columns step first 0 end k → (k % columns < from) ⊎ (from ≤ k % columns) → InRows columns step first 0 from k ⊎ InRows columns step first from end k
in-columns columns step first from end k in-k (inl below) = inl (record { in_row = in-k.in_row; low = in-k.low; high = below })
in-columns columns step first from end k in-k (inr above) = inr (record { in_row = in-k.in_row; low = above; high = in-k.high })

pub in-passes : (columns step first k : ℕ) → 0 < columns → k / columns % step < first + 1 → (k / columns % step < first) ⊎ (first ≤ k / columns % step) → (k / columns % step < first) ⊎ InRows columns step first 0 columns k
in-passes columns step first k some low (inl below) = inl below
in-passes columns step first k some low (inr above) = inr (record { in_row = omega (arith, low, above); low = omega arith; high = mod-lt k some })

-- ---- numbers and offsets

module _ (named : Named) (form : Form) (table : OffsetTable) (r : IsReading named form table) where
  abbrev many : ℕ
  many = length table.columns.items

  abbrev block : List ℕ
  block = named.array.block.now

  pub count-numbers : length (numbers_in named.array) ≡ length table.rows.items * many
  count-numbers = length-map (offsets named.array.layout.now) (number_from named.array.descr.now block) ∙ r.tabled.many

  pub rows-fit : (row end : ℕ) → row < length table.rows.items → end ≤ many → row * many + end ≤ length (numbers_in named.array)
  rows-fit row end row-in within = omega (arith, mul-le-mul_right many row-in, within, count-numbers)

  module _ (row column : ℕ) (row-in : row < length table.rows.items) (column-in : column < many) where
    place-in : row * many + column < length (offsets named.array.layout.now)
    place-in = omega (arith, mul-add-lt row many column (length table.rows.items) row-in column-in, r.tabled.many)

    offset-is : get_or (offsets named.array.layout.now) (row * many + column) 0 ≡ get_or table.rows.items row 0 + get_or table.columns.items column 0 - table.start
    offset-is = omega (arith, r.tabled.sums row column row-in column-in)

    pub number-there : get_or (numbers_in named.array) (row * many + column) (pos 0) ≡ word form (item_at (get_or table.rows.items row 0 + get_or table.columns.items column 0 - table.start) form.width block)
    number-there =
        get_or-map (number_from named.array.descr.now block) (offsets named.array.layout.now) (row * many + column) 0 (pos 0) place-in
        ∙ r.words.read block (get_or (offsets named.array.layout.now) (row * many + column) 0)
        ∙ ap (λ offset. word form (item_at offset form.width block)) offset-is

    pub lies-there : CellLies (length block) form.width (get_or table.rows.items row 0) table.start (get_or table.columns.items column 0)
    lies-there = record {
      from = omega (arith, r.tabled.sums row column row-in column-in);
      few = omega (arith, r.tabled.rows row 0 row-in, r.tabled.columns column 0 column-in);
      end = omega (arith, offset-is, named.array.inside (row * many + column) 0 place-in, r.words.size);
    }

  module _ (row from end : ℕ) (row-in : row < length table.rows.items) (order : from ≤ end) (within : end ≤ many) where
    abbrev part : List ℕ
    part = take (end - from) (drop from table.columns.items)

    pub part-length : length part ≡ end - from
    part-length = mid_len from end table.columns.items within

    part-at : (j d : ℕ) → j < end - from → get_or part j d ≡ get_or table.columns.items (from + j) 0
    part-at j d low = get_or-take (end - from) (drop from table.columns.items) j d low ∙ get_or-drop from table.columns.items j d ∙ get_or_default table.columns.items (from + j) d 0 (omega (arith, low, within))

    pub cells-lie : CellsLie block form.width (get_or table.rows.items row 0) table.start part
    cells-lie = λ j d below.
        let low : j < end - from = omega (arith, below, part-length) in
        subst (CellLies (length block) form.width (get_or table.rows.items row 0) table.start) (sym (part-at j d low)) (lies-there row (from + j) row-in (omega (arith, low, within)))

    pub cells-length : length (cell_words form block (get_or table.rows.items row 0) table.start part) ≡ end - from
    cells-length = length-map part (λ column. word form (item_at (get_or table.rows.items row 0 + column - table.start) form.width block)) ∙ part-length

    pub cell-there : (j : ℕ) → j < end - from → get_or (cell_words form block (get_or table.rows.items row 0) table.start part) j (pos 0) ≡ get_or (numbers_in named.array) (row * many + from + j) (pos 0)
    cell-there j low =
        let at : row * many + (from + j) ≡ row * many + from + j = omega arith in
        get_or-map (λ column. word form (item_at (get_or table.rows.items row 0 + column - table.start) form.width block)) part j 0 (pos 0) (omega (arith, low, part-length))
        ∙ ap (λ column. word form (item_at (get_or table.rows.items row 0 + column - table.start) form.width block)) (part-at j 0 low)
        ∙ sym (number-there row (from + j) row-in (omega (arith, low, within)))
        ∙ ap (λ k. get_or (numbers_in named.array) k (pos 0)) at
