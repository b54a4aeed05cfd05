use Rattle.std.proofs.Common.{◌++◌, length, refl, ap, ◌∙◌}
use Rattle.bench_engine.proofs.Words.{blocks, joined, length-joined}
use Rattle.bench_engine.proofs.Repeated.{blocks-repeated}
use Rattle.bench_engine.proofs.create.filled.Goals as goal

pub returns-clause-items : goal.returns-clause-items
returns-clause-items c =
    let item = c.args.item.now in let n = c.args.items in
    ap (blocks (length item) n) (c.finish.ensures ∙ c.push_repeated.ensures.bytes ∙ ap (λ b. b.0 ++ joined (λ _. item) n) c.in_ok-block.ensures) ∙ blocks-repeated item n

pub returns-clause-whole : goal.returns-clause-whole
returns-clause-whole c =
    let item = c.args.item.now in let n = c.args.items in
    ap length (c.finish.ensures ∙ c.push_repeated.ensures.bytes ∙ ap (λ b. b.0 ++ joined (λ _. item) n) c.in_ok-block.ensures) ∙ length-joined (λ _. item) (length item) n (λ k low. refl)
