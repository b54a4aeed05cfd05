use Rattle.std.proofs.Common.{◌/◌, ◌<◌, ◌∙◌, length, sym, arith}
use Rattle.std.proofs.Math.Nat.{add-mod_right}
use Rattle.fancy_index.proofs.Words.{cases_lt, mod-eq_of_lt}
use Rattle.fancy_index.specs.inside.Items.{numbers_in}
use Rattle.fancy_index.proofs.TableLaws.{both-read, fewer-read, unread}
use Rattle.fancy_index.proofs.ReadingLaws.{count-numbers, in-rows, row-below}
use Rattle.fancy_index.proofs.fast.table_places.put_rows.Goals as goal

pub loop-row-init : goal.loop-row-init
loop-row-init g c =
    let t = c.args.reading.table.now in
    let columns = length t.columns.items in
    record {
      near = mod-eq_of_lt c.requires.first;
      read = unread c.args.reading.named.n (numbers_in c.args.reading.named.array) _ _ (λ k in-k.
          let low : k / columns < t.step = omega (arith, in-k.1, c.requires.first) in
          absurd (omega (arith, in-k.1, sym (mod-eq_of_lt low) ∙ in-k.0.in_row)));
    }

pub loop-row-preserved : goal.loop-row-preserved
loop-row-preserved g c =
    let t = c.args.reading.table.now in
    let columns = length t.columns.items in
    let so_far = c.loop-row.invariant in
    record {
      near = add-mod_right c.loop-row.row t.step ∙ so_far.near;
      read = both-read c.args.reading.named.n (numbers_in c.args.reading.named.array) _ _ _ _ _ _ _ _ so_far.read c.put_cells-are.ensures (λ k below in-k.
          in-rows columns t.step c.args.first c.loop-row.row c.args.from c.args.end k so_far.near in-k (cases_lt (k / columns) c.loop-row.row));
    }

pub loop-row-smaller : goal.loop-row-smaller
loop-row-smaller g c = omega (arith, c.loop-row-test.true, c.len.ensures, c.args.reading.reading.tabled.step)

pub returns : goal.returns
returns g c =
    let rd = c.args.reading in
    let t = rd.table.now in
    let columns = length t.columns.items in
    fewer-read rd.named.n (numbers_in rd.named.array) _ _ _ _ _ c.loop-row.invariant.read (λ k below in-k.
    let row : k / columns < length t.rows.items = row-below k (length t.rows.items) columns (omega (arith, below, count-numbers rd.named rd.form t rd.reading)) (cases_lt (k / columns) (length t.rows.items)) in
    (in-k, omega (arith, row, c.len.ensures, c.loop-row-test.false)))
