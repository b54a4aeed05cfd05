use Rattle.std.proofs.Common.{length, ap, arith}
use Rattle.elem_descr.proofs.Words.{Descr, leaves_of, length-leaves_from}
use Rattle.elem_descr.proofs.FieldLaws.{fields_within}
use Rattle.elem_descr.proofs.descr.Descr.fields.Goals as goal

pub returns-in-Record-clause-few : goal.returns-in-Record-clause-few
returns-in-Record-clause-few c =
    let many = ap (λ (d : Descr). length (leaves_of d)) c.in-Record.is in
    omega (arith, many, length-leaves_from 0 c.in-Record.structure.fields, c.fields.ensures.legal.few)

pub returns-in-Record-clause-within : goal.returns-in-Record-clause-within
returns-in-Record-clause-within c = rw c.in-Record.is (fields_within c.in-Record.structure c.fields.ensures.legal)
