use Rattle.std.proofs.Common.{sym, ap, ◌∙◌, arith}
use Rattle.fancy_index.proofs.Words.{put_each, first_offsets}
use Rattle.fancy_index.proofs.Passes.{fill_front, filled_front}
use Rattle.fancy_index.proofs.ShortLaws.{split-rows, no-rows}
use Rattle.fancy_index.proofs.fast.short_rows.ShortRows.fill_rows.Goals as goal

pub fill_each-requires : goal.fill_each-requires
fill_each-requires c =
    fill_front _ (first_offsets c.row.result) _ c.args.item.now c.loop-k.block _ (split-rows c.args.self c.loop-k.k _ c.loop-k-test.true c.row.ensures) c.loop-k.invariant.pass

pub loop-k-preserved : goal.loop-k-preserved
loop-k-preserved c =
    let split = split-rows c.args.self c.loop-k.k _ c.loop-k-test.true c.row.ensures in
    record {
      pass = filled_front _ (first_offsets c.row.result) _ c.args.item.now c.loop-k.block c.fill_each.new.block _ split c.fill_each.ensures.written c.fill_each.ensures.len c.loop-k.invariant.pass;
      len = c.fill_each.ensures.len ∙ c.loop-k.invariant.len;
    }

pub returns : goal.returns
returns c = record {
  written = ap (λ l. put_each l c.args.item.now c.loop-k.block) (sym (no-rows c.args.self c.loop-k.k (omega (arith, c.loop-k-test.false)))) ∙ c.loop-k.invariant.pass.rest;
  len = c.loop-k.invariant.len;
}
