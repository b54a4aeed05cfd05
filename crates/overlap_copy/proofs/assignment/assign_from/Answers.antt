use Rattle.overlap_copy.proofs.Words.{assigns-reordered}
use Rattle.overlap_copy.proofs.PairCopies.{paired-reordered}
use Rattle.overlap_copy.proofs.assignment.assign_from.Goals as goal

pub assign_in_order-requires : goal.assign_in_order-requires
assign_in_order-requires c = paired-reordered c.in-Some.pair c.in-Some.ensures.pairs c.requires

pub returns-in-Some : goal.returns-in-Some
returns-in-Some c = assigns-reordered c.in-Some.ensures.pairs c.in-Some.ensures.nested c.requires c.assign_in_order.ensures
