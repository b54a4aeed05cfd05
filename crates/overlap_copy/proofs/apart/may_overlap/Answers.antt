use Rattle.std.proofs.lemmas.Bool.{not-false}
use Rattle.overlap_copy.proofs.ApartLaws.{between-common}
use Rattle.overlap_copy.proofs.apart.may_overlap.Goals as goal

pub returns-clause-sound : goal.returns-clause-sound
returns-clause-sound c = λ apart. between-common c.args.a.now c.args.a_item c.args.b.now c.args.b_item (c.lie_between.ensures.0 (not-false c.lie_between.result apart))
