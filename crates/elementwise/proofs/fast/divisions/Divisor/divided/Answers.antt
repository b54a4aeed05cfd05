use Rattle.std.proofs.Common.{◌-◌, ◌/◌, ◌^◌, refl, ◌∙◌}
use Rattle.elementwise.proofs.BitLaws.{reciprocal-high}
use Rattle.elementwise.proofs.fast.divisions.Divisor.divided.Goals as goal

pub divided_16-requires-clause-divides : goal.divided_16-requires-clause-divides
divided_16-requires-clause-divides c = (λ i. c.args.self.divides i / 2 ^ 48) ∙ reciprocal-high (2 ^ 64 - 1) (2 ^ 48) (2 ^ 16 - 1) c.args.self.size refl

pub divided_16-requires-in-2-clause-divides : goal.divided_16-requires-in-2-clause-divides
divided_16-requires-in-2-clause-divides c = (λ i. c.args.self.divides i / 2 ^ 48) ∙ reciprocal-high (2 ^ 64 - 1) (2 ^ 48) (2 ^ 16 - 1) c.args.self.size refl

pub divided_32-requires-clause-divides : goal.divided_32-requires-clause-divides
divided_32-requires-clause-divides c = (λ i. c.args.self.divides i / 2 ^ 32) ∙ reciprocal-high (2 ^ 64 - 1) (2 ^ 32) (2 ^ 32 - 1) c.args.self.size refl
