use Rattle.std.proofs.Common.{◌≡◌, ◌+◌, ◌-◌, ◌*◌, ℕ, List, length, get_or, take, drop, sym, ap, subst, ◌∙◌, arith, pos}
use borrow.Rule.Slice.PartMut.{put_mid}
use Rattle.fancy_index.proofs.Words.{mid_len, ArePlaces}
use Rattle.fancy_index.specs.inside.Items.{numbers_in}
use Rattle.fancy_index.specs.inside.Readings.{CellsLie, cell_words}
use Rattle.fancy_index.specs.inside.Tables.{AreRead, InCells}
use Rattle.fancy_index.proofs.TableLaws.{cells-read}
use Rattle.fancy_index.proofs.ReadingLaws.{cell-there, cells-length, cells-lie, rows-fit}
use Rattle.fancy_index.proofs.fast.table_places.put_cells.Goals as goal

pub invariant_of-cells : goal.invariant_of-cells
invariant_of-cells g c =
    let rd = c.args.reading in
    let t = rd.table.now in
    let width = rd.form.width in
    let block = rd.named.array.block.now in
    let lie = cells-lie rd.named rd.form t rd.reading c.args.row c.args.from c.args.end c.requires.row c.requires.order c.requires.end in
    let by_rows = subst (λ (rows : List ℕ). CellsLie block width (get_or rows c.args.row 0) t.start (take (c.args.end - c.args.from) (drop c.args.from t.columns.items))) (sym c.as_slice-rows.ensures.value) lie in
    let by_columns = subst (λ (columns : List ℕ). CellsLie block width (get_or c.as_slice-rows.result.now c.args.row 0) t.start (take (c.args.end - c.args.from) (drop c.args.from columns))) (sym c.as_slice-columns.ensures.value) by_rows in
    record {
      width = c.requires.width;
      few = c.requires.few;
      lie = subst (λ (bytes : List ℕ). CellsLie bytes width (get_or c.as_slice-rows.result.now c.args.row 0) t.start (take (c.args.end - c.args.from) (drop c.args.from c.as_slice-columns.result.now))) (sym c.bytes.ensures) by_columns;
    }

pub returns : goal.returns
returns g c =
    let rd = c.args.reading in
    let t = rd.table.now in
    let value = c.as_slice-columns.ensures.value in
    let w : ℕ = length c.as_slice-columns.result.now in
    let numbers = numbers_in rd.named.array in
    let m : ℕ = c.args.row * w + c.args.end - (c.args.row * w + c.args.from) in
    let same : c.args.row * w ≡ c.args.row * length t.columns.items = ap (λ l. c.args.row * length l) value in
    let fit = rows-fit rd.named rd.form t rd.reading c.args.row c.args.end c.requires.row c.requires.end in
    let some : m ≡ c.args.end - c.args.from = omega arith in
    let size = c.put_places.auto.places ∙ mid_len (c.args.row * w + c.args.from) (c.args.row * w + c.args.end) c.args.places.now (omega (arith, fit, same, c.requires.many)) in
    let are = subst (λ cells. ArePlaces rd.named.n cells c.put_places.result c.put_places.new.places)
    (λ i. cell_words rd.form (c.bytes.ensures i) (get_or (c.as_slice-rows.ensures.value i) c.args.row 0) t.start (take (c.args.end - c.args.from) (drop c.args.from (value i)))) c.put_places.ensures in
    subst (λ (k : ℕ). AreRead rd.named.n numbers (InCells k c.args.row c.args.from c.args.end) c.put_places.result c.args.places.now (put_mid (c.args.row * w + c.args.from) m c.args.places.now c.put_places.new.places)) (ap length value)
    (cells-read rd.named.n numbers (cell_words rd.form rd.named.array.block.now (get_or t.rows.items c.args.row 0) t.start (take (c.args.end - c.args.from) (drop c.args.from t.columns.items))) w c.args.row c.args.from c.args.end m c.args.places.now c.put_places.new.places c.put_places.result
    c.requires.order (omega (arith, fit, same)) c.requires.many some size
    (cells-length rd.named rd.form t rd.reading c.args.row c.args.from c.args.end c.requires.row c.requires.order c.requires.end ∙ sym some)
    (λ j low. cell-there rd.named rd.form t rd.reading c.args.row c.args.from c.args.end c.requires.row c.requires.order c.requires.end j (omega (arith, low, some)) ∙ (λ i. get_or numbers (c.args.row * length (sym value i) + c.args.from + j) (pos 0)))
    are)
