use Rattle.std.proofs.Common.{◌+◌, ◌≤◌, length, subst, ap, ◌∙◌, All, arith}
use Rattle.fancy_index.proofs.Words.{multiples}
use Rattle.fancy_index.proofs.GatherLaws.{packed-end}
use Rattle.fancy_index.proofs.Passes.{copied_one}
use Rattle.fancy_index.proofs.plans.Plan.assign.Goals as goal

pub scatter-requires-clause-items : goal.scatter-requires-clause-items
scatter-requires-clause-items c =
    let width = c.args.width in
    let n = length c.args.self.now.offsets in
    let is = c.is_packed.ensures c.if-is_packed.true ∙ ap (multiples width) c.requires.count in
    packed-end width (length c.args.other.now) n (subst (All (λ offset. offset + width ≤ length c.args.other.now)) is c.requires.from)

pub overflow_add-rank : goal.overflow_add-rank
overflow_add-rank c = record { fits = omega (arith, c.loop-source.invariant.pass.many, ap length c.in-Some.ensures.steps, c.len-items.ensures.value, c.len-items.ensures.limit) }

pub loop-source-preserved : goal.loop-source-preserved
loop-source-preserved c = record {
  pass = copied_one c.args.self.now.offsets _ c.next.new.self c.loop-source.rank c.args.width c.in-Some.source c.offset.result c.args.other.now c.loop-source.block c.copy_from.new.self _ c.in-Some.ensures.steps c.offset.ensures c.copy_from.ensures.copied c.copy_from.ensures.len c.loop-source.invariant.pass;
  len = c.copy_from.ensures.len ∙ c.loop-source.invariant.len;
}
