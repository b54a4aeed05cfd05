use Rattle.std.proofs.Common.{arith}
use Rattle.elem_descr.proofs.Words.{Partial}
use Rattle.elem_descr.proofs.PartialLaws.{widened_partial}
use Rattle.elem_descr.proofs.record_builder.RecordBuilder.pad.Goals as goal

pub invariant_of-self : goal.invariant_of-self
invariant_of-self c =
    let d = c.self.inside in
    let p : Partial = record { size = d.size; alignment = d.alignment; leaves = d.leaves; levels = d.levels; fields = d.fields.items } in
    widened_partial p c.args.count c.self.invariant (omega (arith, c.self.invariant.small, c.if-count-self.false))
