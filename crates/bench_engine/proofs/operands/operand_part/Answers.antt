use Rattle.std.proofs.Common.{◌∙◌, refl, sym, ap, subst, map, inl, Ok}
use Rattle.bench_engine.proofs.Words.{err_from_is_err_and, Descr, item_from, offsets, taken, operand_part, Meets, IsPart}
use Rattle.bench_engine.specs.declared.operands.Part.TheVariants as part
use Rattle.bench_engine.proofs.Computes.{part-whole, part-bad, part-done}
use Rattle.bench_engine.specs.NewArrayLaws.{in-order, passed}
use Rattle.bench_engine.proofs.TargetLaws.{aimed, copy-lacks, plan-within, takes-copy}
use Rattle.bench_engine.proofs.operands.operand_part.Goals as goal

pub gather_owned-requires : goal.gather_owned-requires
gather_owned-requires c =
    let s = c.args.bench.now.state in
    let r = c.args.array in
    let it = c.requires.named in
    let aim = aimed s it.0 r it.2 c.as_slice.result.now _ _ c.in-Plan.is (c.in_ok-target.ensures it.0 it.2) in
    plan-within s it.0 r it.2 c.as_slice.result.now c.in-Plan.plan aim.0 aim.2.1

pub returns-in_err-target : goal.returns-in_err-target
returns-in_err-target c =
    let s = c.args.bench.now.state in
    let it = c.requires.named in
    let p = err_from_is_err_and c.from_residual.result c.from_residual.ensures.1 in
    rw (p.1, p.2) (passed (taken s it.0 c.as_slice.result.now) (operand_part s c.args.operand.now) _ (λ bad. part-bad s c.args.operand.now it.0 it.1 c.as_slice.result.now _ (rw c.as_slice.ensures c.in-Some.is) bad) (c.in_err-target.ensures it.0 it.2))

pub returns-in_err-copy-in-Plan : goal.returns-in_err-copy-in-Plan
returns-in_err-copy-in-Plan c =
    let s = c.args.bench.now.state in
    let r = c.args.array in
    let it = c.requires.named in
    let p = err_from_is_err_and c.from_residual-in_err-copy-in-Plan.result c.from_residual-in_err-copy-in-Plan.ensures.1 in
    let aim = aimed s it.0 r it.2 c.as_slice.result.now _ _ c.in-Plan.is (c.in_ok-target.ensures it.0 it.2) in
    rw (p.1, p.2) (inl (copy-lacks s it.0 r it.2 c.as_slice.result.now c.in-Plan.plan aim.0 _ aim.2.1 aim.2.2 c.in_err-copy-in-Plan.ensures.refused))

pub returns-in_ok-copy-in-Plan : goal.returns-in_ok-copy-in-Plan
returns-in_ok-copy-in-Plan c =
    let s = c.args.bench.now.state in
    let r = c.args.array in
    let o = c.in_ok-copy-in-Plan.copy in
    let e = c.in_ok-copy-in-Plan.ensures in
    let it = c.requires.named in
    let aim = aimed s it.0 r it.2 c.as_slice.result.now _ _ c.in-Plan.is (c.in_ok-target.ensures it.0 it.2) in
    subst (Meets (IsPart s) (Ok (part.Copy o))) (sym (part-done s c.args.operand.now it.0 it.1 c.as_slice.result.now aim.0 (rw c.as_slice.ensures c.in-Some.is) aim.1))
    (takes-copy s it.0 r it.2 c.as_slice.result.now c.in-Plan.plan aim.0 o aim.2.1 e.descr e.shape (in-order o r.descr.now c.in-Plan.plan.shape e.descr e.shape e.order) (ap (λ (d : Descr). map (item_from d o.block) (offsets o.layout)) e.descr ∙ e.items))

pub returns-in-View : goal.returns-in-View
returns-in-View c =
    let s = c.args.bench.now.state in
    let r = c.args.array in
    let it = c.requires.named in
    let aim = aimed s it.0 r it.2 c.as_slice.result.now _ _ c.in-View.is (c.in_ok-target.ensures it.0 it.2) in
    subst (Meets (IsPart s) (Ok (part.View r c.in-View.layout))) (sym (part-done s c.args.operand.now it.0 it.1 c.as_slice.result.now aim.0 (rw c.as_slice.ensures c.in-Some.is) aim.1)) (it.0, aim.0, it.2, aim.2.1, refl)

pub returns-in_default : goal.returns-in_default
returns-in_default c =
    let s = c.args.bench.now.state in
    let it = c.requires.named in
    subst (Meets (IsPart s) (Ok (part.Whole c.args.array))) (sym (part-whole s c.args.operand.now it.0 it.1 c.in_default.is)) it.2
