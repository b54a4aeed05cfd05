use Rattle.std.proofs.Common.{sym, ◌∙◌}
use Rattle.overlap_copy.proofs.Words.{traded}
use Rattle.overlap_copy.proofs.TradeLaws.{traded-even}
use Rattle.overlap_copy.proofs.exchanges.trade_run.Goals as goal

pub returns : goal.returns
returns c =
    let to = c.args.to in
    let from = c.args.from in
    let a = c.strided.ensures in
    let b = c.strided-2.ensures in
    record {
      traded =
          c.trade_strided.ensures.traded
          ∙ (λ i. traded (a i).steps.at (a i).steps.step (b i).steps.at (b i).steps.step (b i).width (b i).count c.args.block.now c.args.other.now)
          ∙ (λ i. traded to.offset to.step from.offset from.step c.args.width (sym c.requires.count i) c.args.block.now c.args.other.now)
          ∙ traded-even c.requires;
      len = c.trade_strided.ensures.len.0;
      other_len = c.trade_strided.ensures.len.1;
    }
