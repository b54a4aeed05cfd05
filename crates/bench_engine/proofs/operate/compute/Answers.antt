use Rattle.std.proofs.Common.{refl, sym, ap, inr, ◌∙◌}
use Rattle.bench_engine.proofs.Words.{err_from_is_err_and, bound_new, computed_contents, held}
use Rattle.bench_engine.proofs.Computes.{compute-unknown, compute-many, compute-bad, compute-done}
use Rattle.bench_engine.specs.NewArrayLaws.{same-answers}
use Rattle.bench_engine.proofs.Views.{refused-or}
use Rattle.bench_engine.proofs.operate.compute.Goals as goal

pub returns-in_err-sources-clause-answers : goal.returns-in_err-sources-clause-answers
returns-in_err-sources-clause-answers c =
    let p = err_from_is_err_and c.from_residual.result c.from_residual.ensures.1 in
    rw (p.1, p.2, c.in_err-sources.ensures.0) (refl, inr (compute-unknown c.args.bench.now.state _ _ c.in_err-sources.ensures.1))

pub returns-then-not-has_room_for-clause-answers : goal.returns-then-not-has_room_for-clause-answers
returns-then-not-has_room_for-clause-answers c =
    (refl, inr (compute-many c.args.bench.now.state _ _ c.in_ok-sources.ensures.0 (sym c.if-not-has_room_for.ensures)))

pub returns-in_err-owned-clause-answers : goal.returns-in_err-owned-clause-answers
returns-in_err-owned-clause-answers c =
    let s = c.args.bench.now.state in
    let p = err_from_is_err_and c.from_residual-in_err-owned.result c.from_residual-in_err-owned.ensures.1 in
    let all = c.in_ok-sources.ensures.0 in
    rw (p.1, p.2) (refl, refused-or _ _ _ (computed_contents s c.args.computation.now) all c.in_err-owned.ensures (compute-bad s c.args.name.now c.args.computation.now all _ (sym c.if-not-has_room_for.ensures)))

pub returns-clause-answers : goal.returns-clause-answers
returns-clause-answers c =
    let s = c.args.bench.now.state in
    let all = c.in_ok-sources.ensures.0 in
    same-answers s _ _ _ _ _ _ _ all
    (λ choice. compute-done s c.args.name.now c.args.computation.now all _ (sym c.if-not-has_room_for.ensures) c.in_ok-owned.ensures choice
    ∙ ap (λ o. bound_new choice s c.args.name.now o (held c.in_ok-owned.owned)) (sym c.origin_of.ensures)) c.bind_new.ensures.answers
