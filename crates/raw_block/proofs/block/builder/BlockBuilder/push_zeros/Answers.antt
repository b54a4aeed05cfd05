use Rattle.std.proofs.Common.{ℕ, List, ◌++◌, replicate, ap, ◌∙◌}
use Rattle.raw_block.proofs.Appends.{joined_zeros}
use Rattle.raw_block.proofs.block.builder.BlockBuilder.push_zeros.Goals as goal

pub returns-clause-bytes : goal.returns-clause-bytes
returns-clause-bytes c =
    c.push_same.ensures.items ∙ ap (λ l. c.self.inside.bytes.items ++ l) (joined_zeros c.args.n)
    ∙ ap (λ (v : List ℕ × ℕ). v.0 ++ replicate c.args.n 0) c.self.view_is
