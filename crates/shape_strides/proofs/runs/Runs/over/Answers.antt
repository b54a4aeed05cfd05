use Rattle.std.proofs.Common.{ap, map, ◌∙◌, arith}
use Rattle.shape_strides.proofs.Words.{count, run_along}
use Rattle.shape_strides.proofs.LastRunLaws.{runs-last_of, runs-empty, outside-axes, starts-count}
use Rattle.shape_strides.proofs.runs.Runs.over.Goals as goal

pub returns-then-items-eq0 : goal.returns-then-items-eq0
returns-then-items-eq0 c = λ l is is' is''.
    ap (map (run_along _)) c.over.ensures ∙ runs-empty l c.args.lengths.now c.args.strides.now c.args.offset _ is is' is'' (ap count is ∙ omega (arith, c.requires.items))

pub nonzero_div-items : goal.nonzero_div-items
nonzero_div-items c =
    let last = c.last_run-last.result in
    (starts-count c.args.lengths.now c.args.strides.now c.args.items last.outside last.along c.requires.items (omega (arith, c.if-items-eq0.false)) c.last_run-last.ensures).0

pub over-starts-requires-clause-axes : goal.over-starts-requires-clause-axes
over-starts-requires-clause-axes c =
    outside-axes c.args.lengths.now c.args.strides.now c.args.offset c.last_run-last.result.outside (omega (arith, c.requires.items, c.if-items-eq0.false)) (omega (arith, c.requires.items, c.requires.most)) c.requires.axes

pub over-starts-requires-clause-items : goal.over-starts-requires-clause-items
over-starts-requires-clause-items c =
    let last = c.last_run-last.result in
    (starts-count c.args.lengths.now c.args.strides.now c.args.items last.outside last.along c.requires.items (omega (arith, c.if-items-eq0.false)) c.last_run-last.ensures).1

pub returns : goal.returns
returns c = λ l is is' is''.
    let last = c.last_run-last.result in
    ap (map (run_along last.along)) c.over-starts.ensures ∙ runs-last_of l c.args.lengths.now c.args.strides.now c.args.offset last.outside last.along is is' is'' (omega (arith, c.requires.items, c.if-items-eq0.false)) c.last_run-last.ensures
