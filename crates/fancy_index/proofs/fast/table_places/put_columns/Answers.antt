use Rattle.std.proofs.Common.{◌+◌, ◌%◌, length, arith}
use Rattle.fancy_index.proofs.Words.{cases_lt}
use Rattle.fancy_index.specs.inside.Items.{numbers_in}
use Rattle.fancy_index.proofs.TableLaws.{both-read, fewer-read, unread}
use Rattle.fancy_index.proofs.ReadingLaws.{in-columns}
use Rattle.fancy_index.proofs.fast.table_places.put_columns.Goals as goal

pub loop-from-init : goal.loop-from-init
loop-from-init g c = record {
  within = omega arith;
  read = unread c.args.reading.named.n (numbers_in c.args.reading.named.array) _ _ (λ k in-k. absurd (omega (arith, in-k.high)));
}

pub loop-from-preserved : goal.loop-from-preserved
loop-from-preserved g c =
    let t = c.args.reading.table.now in
    let columns = length t.columns.items in
    let so_far = c.loop-from.invariant in
    record {
      within = omega (arith, c.min.ensures, c.loop-from-test.true);
      read = both-read c.args.reading.named.n (numbers_in c.args.reading.named.array) _ _ _ _ _ _ _ _ so_far.read c.put_rows-are.ensures (λ k below in-k.
          in-columns columns t.step c.args.first c.loop-from.from (c.loop-from.from + c.min.result) k in-k (cases_lt (k % columns) c.loop-from.from));
    }

pub loop-from-smaller : goal.loop-from-smaller
loop-from-smaller g c = omega (arith, c.min.ensures, c.loop-from-test.true)

pub returns : goal.returns
returns g c =
    fewer-read c.args.reading.named.n (numbers_in c.args.reading.named.array) _ _ _ _ _ c.loop-from.invariant.read (λ k below in-k. record {
      in_row = in-k.in_row;
      low = in-k.low;
      high = omega (arith, in-k.high, c.loop-from-test.false, c.len-columns.ensures);
    })
