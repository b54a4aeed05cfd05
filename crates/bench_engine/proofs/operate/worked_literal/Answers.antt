use Rattle.std.proofs.Common.{inr}
use Rattle.bench_engine.proofs.Words.{err_from_is_err_and}
use Rattle.bench_engine.proofs.LiteralLaws.{literal-record, literal-other, literal-type, single-gives}
use Rattle.bench_engine.proofs.operate.worked_literal.Goals as goal

pub returns-in_err-beside : goal.returns-in_err-beside
returns-in_err-beside c =
    let p = err_from_is_err_and c.from_residual.result c.from_residual.ensures.1 in
    rw (p.1, p.2) (inr (literal-record c.args.op c.args.descr.now c.args.literal.now _ c.in_err-beside.ensures))

pub returns-in_err-scalar : goal.returns-in_err-scalar
returns-in_err-scalar c =
    let p = err_from_is_err_and c.from_residual-in_err-scalar.result c.from_residual-in_err-scalar.ensures.1 in
    rw (p.1, p.2) (inr (literal-other c.args.op c.args.descr.now c.args.literal.now _ _ c.in_ok-beside.ensures c.in_err-scalar.ensures))

pub returns-in_err-promote : goal.returns-in_err-promote
returns-in_err-promote c =
    let p = err_from_is_err_and c.from_residual-in_err-promote.result c.from_residual-in_err-promote.ensures.1 in
    rw (p.1, p.2) (inr (literal-type c.args.op c.args.descr.now c.args.literal.now _ _ _ c.in_ok-beside.ensures c.in_ok-scalar.ensures c.in_err-promote.ensures))

pub returns : goal.returns
returns c =
    let e = c.single.ensures in
    single-gives c.args.op c.args.descr.now c.args.literal.now _ _ _ c.single.result c.in_ok-beside.ensures c.in_ok-scalar.ensures c.in_ok-promote.ensures e.descr e.shape e.offsets e.item
