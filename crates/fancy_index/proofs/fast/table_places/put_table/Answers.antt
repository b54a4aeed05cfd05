use Rattle.std.proofs.Common.{◌/◌, ◌%◌, ◌∙◌, length, arith}
use Rattle.fancy_index.proofs.Words.{cases_lt, mod-lt}
use Rattle.fancy_index.specs.inside.Items.{numbers_in}
use Rattle.fancy_index.proofs.TableLaws.{all-read, both-read, unread}
use Rattle.fancy_index.proofs.ReadingLaws.{in-passes}
use Rattle.fancy_index.proofs.fast.table_places.put_table.Goals as goal

pub loop-first-init : goal.loop-first-init
loop-first-init g c = unread c.args.reading.named.n (numbers_in c.args.reading.named.array) _ _ (λ k low. absurd (omega (arith, low)))

pub loop-first-preserved : goal.loop-first-preserved
loop-first-preserved g c =
    let t = c.args.reading.table.now in
    let columns = length t.columns.items in
    both-read c.args.reading.named.n (numbers_in c.args.reading.named.array) _ _ _ _ _ _ _ _ c.loop-first.invariant c.put_columns-are.ensures (λ k below low.
    in-passes columns t.step c.loop-first.first k c.args.reading.reading.tabled.some low (cases_lt (k / columns % t.step) c.loop-first.first))

pub returns : goal.returns
returns g c =
    let t = c.args.reading.table.now in
    let columns = length t.columns.items in
    all-read c.args.reading.named.n (numbers_in c.args.reading.named.array) _ _ _ _ c.loop-first.invariant (c.loop-first.auto.places ∙ c.requires.many) (λ k below. omega (arith, mod-lt (k / columns) c.args.reading.reading.tabled.step, c.loop-first-test.false))
