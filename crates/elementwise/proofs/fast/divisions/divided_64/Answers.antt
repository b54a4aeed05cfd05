use Rattle.std.proofs.Common.{◌-◌, ◌^◌, arith}
use Rattle.elementwise.proofs.BitLaws.{near-low, near-is, next-is}
use Rattle.elementwise.proofs.fast.divisions.divided_64.Goals as goal

pub overflow_sub-rest : goal.overflow_sub-rest
overflow_sub-rest c = let near = c.carrying_mul-near.result in near-low (2 ^ 64 - 1) c.args.number c.args.by c.args.reciprocal near.0 near.1 (omega (arith, c.ranges.number.fits)) c.requires.some c.requires.divides (omega arith) (omega (arith, c.carrying_mul-near.ensures))

pub returns-then-rest-by : goal.returns-then-rest-by
returns-then-rest-by c = let near = c.carrying_mul-near.result in next-is (2 ^ 64 - 1) c.args.number c.args.by c.args.reciprocal near.0 near.1 (omega (arith, c.ranges.number.fits)) c.requires.some c.requires.divides (omega arith) (omega (arith, c.carrying_mul-near.ensures)) (omega (arith, c.if-rest-by.true))

pub returns-else-rest-by : goal.returns-else-rest-by
returns-else-rest-by c = let near = c.carrying_mul-near.result in near-is (2 ^ 64 - 1) c.args.number c.args.by c.args.reciprocal near.0 near.1 (omega (arith, c.ranges.number.fits)) c.requires.some c.requires.divides (omega arith) (omega (arith, c.carrying_mul-near.ensures)) (omega (arith, c.if-rest-by.false))
