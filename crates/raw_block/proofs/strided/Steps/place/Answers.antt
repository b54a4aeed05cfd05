use Rattle.std.proofs.Common.{◌≡◌, ◌+◌, ◌*◌, ◌%◌, ◌^◌, ap, ◌∙◌, w64, rules}
use Rattle.raw_block.proofs.Words.{to_z-of_z, SFits, of_z}
use Rattle.raw_block.proofs.Places.{place_wraps}
use Rattle.raw_block.proofs.strided.Steps.place.Goals as goal

pub returns : goal.returns
returns c =
    let step = c.args.self.step in let fits : SFits w64 step = search rules in let same : c.cast_unsigned.result ≡ of_z w64 step = c.cast_unsigned.ensures ∙ ap (of_z w64) (to_z-of_z w64 step fits) in
    ap (λ s. (c.args.self.at + (c.args.k * s) % 2 ^ 64) % 2 ^ 64) same ∙ place_wraps c.args.self.at c.args.k step fits c.requires.0 c.requires.1
