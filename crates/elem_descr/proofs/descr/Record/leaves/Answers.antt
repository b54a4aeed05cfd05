use Rattle.std.proofs.Common.{rules}
use Rattle.elem_descr.proofs.FieldLaws.{kept_in_order, kept_some, kept_few}
use Rattle.elem_descr.proofs.descr.Record.leaves.Goals as goal

pub returns-clause-in_order : goal.returns-clause-in_order
returns-clause-in_order c = let h = kept_in_order _ _ _ c.self.invariant in search rules

pub returns-clause-not_empty : goal.returns-clause-not_empty
returns-clause-not_empty c = let h = kept_some _ _ _ c.self.invariant in search rules

pub returns-clause-few : goal.returns-clause-few
returns-clause-few c = let h = kept_few _ _ _ c.self.invariant in search rules
