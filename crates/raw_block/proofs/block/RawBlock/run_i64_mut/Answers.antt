use Rattle.std.proofs.Common.{drop, length, refl, ap, ◌∙◌}
use Rattle.raw_block.proofs.Words.{first_chunks, length-chunks, signed_numbers, with_run}
use Rattle.raw_block.proofs.RunWrites.{chunks-take, numbers-written, others-stay}
use Rattle.raw_block.proofs.block.RawBlock.run_i64_mut.Goals as goal

pub returns : goal.returns
returns c =
    let at = c.args.at in let n = c.args.n in let bytes = c.self.inside.bytes.items in
    let lent = c.run_mut.ensures.value ∙ chunks-take 8 n (drop at bytes) ∙ ap (λ l. first_chunks 8 n (drop at l)) c.self.view_is in (
      (refl, λ items. ap (with_run at items) c.self.view_is),
      record {
        writes_back = tt;
        len = ap length lent ∙ length-chunks 8 n (drop at c.args.self.now);
        items = lent;
        before = ap (signed_numbers 8) lent;
        after = λ items are. numbers-written 8 at n c.args.self.now items c.requires are;
        others = λ items are. others-stay 8 at n c.args.self.now items c.requires are;
      },
    )
