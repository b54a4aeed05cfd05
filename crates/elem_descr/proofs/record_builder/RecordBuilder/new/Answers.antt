use Rattle.elem_descr.proofs.PartialLaws.{empty_partial}
use Rattle.elem_descr.proofs.record_builder.RecordBuilder.new.Goals as goal

pub invariant_of-result : goal.invariant_of-result
invariant_of-result c = rw c.new.ensures.items (empty_partial c.args.levels c.args.leaves c.requires.levels c.requires.leaves)
