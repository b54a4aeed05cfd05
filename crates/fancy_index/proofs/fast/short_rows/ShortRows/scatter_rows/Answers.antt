use Rattle.std.proofs.Common.{◌*◌, length, sym, ap, ◌∙◌, arith}
use Rattle.fancy_index.proofs.Words.{assigned, packed, first_offsets}
use Rattle.fancy_index.proofs.Passes.{scatter_front, scattered_front}
use Rattle.fancy_index.proofs.ShortLaws.{split-rows, no-rows}
use Rattle.fancy_index.proofs.fast.short_rows.ShortRows.scatter_rows.Goals as goal

pub scatter_each-at-requires : goal.scatter_each-at-requires
scatter_each-at-requires c =
    let split = split-rows c.args.self c.loop-k.k _ c.loop-k-test.true c.row.ensures in
    scatter_front _ (first_offsets c.row.result) _ c.loop-k.at c.args.source.width _ c.args.source.items.now c.loop-k.block _ split c.loop-k.invariant.pass

pub loop-k-preserved : goal.loop-k-preserved
loop-k-preserved c =
    let split = split-rows c.args.self c.loop-k.k _ c.loop-k-test.true c.row.ensures in
    record {
      pass = scattered_front _ (first_offsets c.row.result) _ c.loop-k.at c.scatter_each-at.result c.args.source.width _ c.args.source.items.now c.loop-k.block c.scatter_each-at.new.block _ split c.scatter_each-at.ensures.written c.scatter_each-at.ensures.len c.scatter_each-at.ensures.end c.loop-k.invariant.pass;
      len = c.scatter_each-at.ensures.len ∙ c.loop-k.invariant.len;
    }

pub returns : goal.returns
returns c = record {
  written =
      ap (λ l. assigned l (packed c.loop-k.at c.args.source.width (length l)) c.args.source.width c.args.source.items.now c.loop-k.block) (sym (no-rows c.args.self c.loop-k.k (omega (arith, c.loop-k-test.false))))
      ∙ c.loop-k.invariant.pass.rest;
  len = c.loop-k.invariant.len;
  end = omega (arith, c.loop-k.invariant.pass.ends, ap (λ l. length l * c.args.source.width) (no-rows c.args.self c.loop-k.k (omega (arith, c.loop-k-test.false))));
}
