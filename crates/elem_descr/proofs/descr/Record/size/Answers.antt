use Rattle.elem_descr.specs.DescriptorLaws.{legal_size}
use Rattle.elem_descr.proofs.descr.Record.size.Goals as goal

pub returns-clause-not_empty : goal.returns-clause-not_empty
returns-clause-not_empty c = legal_size _ c.self.invariant.legal
