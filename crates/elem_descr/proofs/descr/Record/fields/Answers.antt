use Rattle.std.proofs.Common.{rules}
use Rattle.elem_descr.proofs.FieldLaws.{fields_of-listed}
use Rattle.elem_descr.proofs.descr.Record.fields.Goals as goal

pub returns-clause-value : goal.returns-clause-value
returns-clause-value c = search (rules, fields_of-listed c.self.inside.fields.items)
