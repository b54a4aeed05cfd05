use Rattle.overlap_copy.proofs.ApartLaws.{difference-up, difference-round}
use Rattle.overlap_copy.proofs.apart.difference.Goals as goal

pub returns-then-from-to-clause-value : goal.returns-then-from-to-clause-value
returns-then-from-to-clause-value c = difference-up c.args.from c.args.to c.args.modulus c.if-from-to.true

pub returns-else-from-to-clause-value : goal.returns-else-from-to-clause-value
returns-else-from-to-clause-value c = difference-round c.args.from c.args.to c.args.modulus c.requires c.if-from-to.false
