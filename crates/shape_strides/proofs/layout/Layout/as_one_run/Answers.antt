use Rattle.std.proofs.Common.{rules, ◌∷◌, [], w64, sym, ap, subst, ◌∙◌, arith}
use Rattle.shape_strides.proofs.Words.{to_z-of_z, SFits, LieWithin, run_offsets, length-offsets}
use Rattle.shape_strides.proofs.SingleLaws.{outside_no_run, last_of, whole_run, run_is_all, run_fits, run_steps}
use Rattle.shape_strides.proofs.layout.Layout.as_one_run.Goals as goal

pub returns-clause-items : goal.returns-clause-items
returns-clause-items c =
    let l = c.args.self.now in
    let run = c.last_run-run.result in
    let fits : SFits w64 run.along.stride = search rules in
    let from = whole_run l run.outside run.along c.if-run-gt0.false (last_of l _ _ run.outside run.along c.as_slice-2.ensures c.as_slice.ensures.value c.last_run-run.ensures) in
    ap (λ step. run_offsets (record { offset = l.offset; count = run.along.len; step = step })) (to_z-of_z w64 run.along.stride fits)
    ∙ run_is_all l run.along (omega (arith, c.items.ensures.value, c.if-items-eq0.false)) from

pub returns-clause-lie : goal.returns-clause-lie
returns-clause-lie c = λ len item fit.
    let l = c.args.self.now in
    let run = c.last_run-run.result in
    let fits : SFits w64 run.along.stride = search rules in
    let from = whole_run l run.outside run.along c.if-run-gt0.false (last_of l _ _ run.outside run.along c.as_slice-2.ensures c.as_slice.ensures.value c.last_run-run.ensures) in
    subst (λ step. LieWithin (run.along.len ∷ []) (step ∷ []) l.offset len item) (sym (to_z-of_z w64 run.along.stride fits)) (run_fits l run.along (omega (arith, c.items.ensures.value, c.if-items-eq0.false)) from len item fit)

pub returns-then-items-eq0-clause-found : goal.returns-then-items-eq0-clause-found
returns-then-items-eq0-clause-found c = λ step two by. omega (arith, two, length-offsets c.args.self.now, c.items.ensures.value, c.if-items-eq0.true)

pub returns-then-run-gt0-clause-found : goal.returns-then-run-gt0-clause-found
returns-then-run-gt0-clause-found c = λ step two by.
    let l = c.args.self.now in
    let run = c.last_run-run.result in
    outside_no_run l run.outside run.along step (omega (arith, two, length-offsets l)) (last_of l _ _ run.outside run.along c.as_slice-2.ensures c.as_slice.ensures.value c.last_run-run.ensures) c.if-run-gt0.true by

pub returns-clause-found : goal.returns-clause-found
returns-clause-found c = λ step two by.
    let l = c.args.self.now in
    let run = c.last_run-run.result in
    let fits : SFits w64 run.along.stride = search rules in
    let from = whole_run l run.outside run.along c.if-run-gt0.false (last_of l _ _ run.outside run.along c.as_slice-2.ensures c.as_slice.ensures.value c.last_run-run.ensures) in
    to_z-of_z w64 run.along.stride fits ∙ run_steps l run.along (omega (arith, two, length-offsets l)) from step by
