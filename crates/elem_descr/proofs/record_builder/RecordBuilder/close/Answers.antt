use Rattle.std.proofs.Common.{◌≡◌, ◌≤◌, length, rules, arith, ap}
use Rattle.elem_descr.proofs.Words.{Partial}
use Rattle.elem_descr.proofs.PartialLaws.{closed_legal}
use Rattle.elem_descr.proofs.record_builder.RecordBuilder.close.Goals as goal

pub try_new-requires : goal.try_new-requires
try_new-requires c =
    let d = c.self.inside in
    let p : Partial = record { size = d.size; alignment = d.alignment; leaves = d.leaves; levels = d.levels; fields = d.fields.items } in
    let size : d.size ≡ c.args.self.size = ap (λ (q : Partial). q.size) c.self.view_is in
    let some : 1 ≤ length d.fields.items = search rules in
    closed_legal p c.closed_size-size.result c.self.invariant some (omega (arith, c.closed_size-size.ensures.later)) (omega arith)
