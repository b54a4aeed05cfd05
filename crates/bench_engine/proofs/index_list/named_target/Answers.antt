use Rattle.std.proofs.Common.{sym, inr, ap, ◌∙◌}
use Rattle.bench_engine.proofs.Words.{err_from_is_err_and, index_items}
use Rattle.bench_engine.proofs.IndexLaws.{gathers, refuses, too-large}
use Rattle.bench_engine.proofs.TargetLaws.{aims-view, aims-plan}
use Rattle.bench_engine.proofs.index_list.named_target.Goals as goal

pub returns-then-are_basic : goal.returns-then-are_basic
returns-then-are_basic c a shows =
    aims-view c.args.bench.now.state a c.args.array.now shows c.args.index.now c.in_ok-basic.field-0 (sym c.if-are_basic.ensures) c.in_ok-basic.ensures.view c.in_ok-basic.ensures.nested

pub returns-in_err-plan : goal.returns-in_err-plan
returns-in_err-plan c a shows =
    let p = err_from_is_err_and c.from_residual-in_err-plan.result c.from_residual-in_err-plan.ensures.1 in
    rw (p.1, p.2, sym c.if-are_basic.ensures) (refuses c.args.bench.now.state a c.args.array.now shows c.args.index.now _ (ap index_items c.as_slice.ensures.value ∙ c.in_ok-items.ensures) _ c.in_err-plan.ensures)

pub returns-in_err-bytes_of : goal.returns-in_err-bytes_of
returns-in_err-bytes_of c a shows =
    let p = err_from_is_err_and c.from_residual-in_err-bytes_of.result c.from_residual-in_err-bytes_of.ensures.1 in
    let large = rw c.len.ensures.value at c.in_err-bytes_of.ensures.large in
    rw (p.1, p.2, large.0, sym c.if-are_basic.ensures) (inr (too-large c.args.bench.now.state a c.args.array.now shows c.args.index.now _ (ap index_items c.as_slice.ensures.value ∙ c.in_ok-items.ensures) c.in_ok-plan.plan c.in_ok-plan.ensures large.1))

pub returns : goal.returns
returns c a shows =
    let few = rw (c.in_ok-bytes_of.ensures.bytes, c.len.ensures.value) at c.in_ok-bytes_of.ensures.within in
    aims-plan c.args.bench.now.state a c.args.array.now shows c.args.index.now c.in_ok-plan.plan (sym c.if-are_basic.ensures)
    (gathers c.args.bench.now.state a c.args.array.now shows c.args.index.now _ (ap index_items c.as_slice.ensures.value ∙ c.in_ok-items.ensures) c.in_ok-plan.plan c.in_ok-plan.ensures few) few
