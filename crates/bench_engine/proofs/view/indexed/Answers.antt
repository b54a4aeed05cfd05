use Rattle.std.proofs.Common.{◌∙◌, sym, ap, map, inl}
use Rattle.bench_engine.proofs.Words.{err_from_is_err_and, Descr, item_from, offsets}
use Rattle.bench_engine.specs.NewArrayLaws.{in-order}
use Rattle.bench_engine.proofs.PartLaws.{copy-seen, view-seen}
use Rattle.bench_engine.proofs.TargetLaws.{aimed, copy-lacks, plan-within, takes-copy}
use Rattle.bench_engine.proofs.view.indexed.Goals as goal

pub gather_owned-requires : goal.gather_owned-requires
gather_owned-requires c =
    let s = c.args.bench.now.state in
    let r = c.args.array.now in
    let is = c.requires.shown in
    let aim = aimed s is.0 r is.1 c.as_slice.result.now _ _ c.in-Plan.is (c.in_ok-target.ensures is.0 is.1) in
    plan-within s is.0 r is.1 c.as_slice.result.now c.in-Plan.plan aim.0 aim.2.1

pub returns-in_err-copy-in-Plan : goal.returns-in_err-copy-in-Plan
returns-in_err-copy-in-Plan c a shows =
    let s = c.args.bench.now.state in
    let r = c.args.array.now in
    let p = err_from_is_err_and c.from_residual-in_err-copy-in-Plan.result c.from_residual-in_err-copy-in-Plan.ensures.1 in
    let aim = aimed s a r shows c.as_slice.result.now _ _ c.in-Plan.is (c.in_ok-target.ensures a shows) in
    rw (p.1, p.2) (inl (copy-lacks s a r shows c.as_slice.result.now c.in-Plan.plan aim.0 _ aim.2.1 aim.2.2 c.in_err-copy-in-Plan.ensures.refused))

pub returns-in_ok-copy-in-Plan : goal.returns-in_ok-copy-in-Plan
returns-in_ok-copy-in-Plan c a shows =
    let s = c.args.bench.now.state in
    let r = c.args.array.now in
    let o = c.in_ok-copy-in-Plan.copy in
    let e = c.in_ok-copy-in-Plan.ensures in
    let aim = aimed s a r shows c.as_slice.result.now _ _ c.in-Plan.is (c.in_ok-target.ensures a shows) in
    let holds = takes-copy s a r shows c.as_slice.result.now c.in-Plan.plan aim.0 o aim.2.1 e.descr e.shape (in-order o r.descr.now c.in-Plan.plan.shape e.descr e.shape e.order) (ap (λ (d : Descr). map (item_from d o.block) (offsets o.layout)) e.descr ∙ e.items) in
    rw (sym c.as_slice.ensures) (copy-seen s a r c.as_slice.result.now o aim.0 shows aim.1 aim.2.0 holds)

pub returns-in-View : goal.returns-in-View
returns-in-View c a shows =
    let s = c.args.bench.now.state in
    let r = c.args.array.now in
    let aim = aimed s a r shows c.as_slice.result.now _ _ c.in-View.is (c.in_ok-target.ensures a shows) in
    rw (sym c.as_slice.ensures) (view-seen s a r c.as_slice.result.now c.items.result c.in-View.layout aim.0 shows aim.1 aim.2 c.items.ensures.bound c.items.ensures.descr)
