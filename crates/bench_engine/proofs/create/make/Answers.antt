use Rattle.std.proofs.Common.{sym, refl, inr}
use Rattle.bench_engine.proofs.Words.{err_from_is_err_and, contents_of, creation_outcome}
use Rattle.bench_engine.specs.NewArrayLaws.{creation-refused, made-answers}
use Rattle.bench_engine.proofs.create.make.Goals as goal

pub returns-then-not-has_room_for-clause-answers : goal.returns-then-not-has_room_for-clause-answers
unfolding creation_outcome
returns-then-not-has_room_for-clause-answers c = (refl, inr (λ choice. rw (sym c.if-not-has_room_for.ensures) refl))

pub returns-in_err-owned-clause-answers : goal.returns-in_err-owned-clause-answers
returns-in_err-owned-clause-answers c =
    let p = err_from_is_err_and c.from_residual.result c.from_residual.ensures.1 in
    rw (p.1, p.2) (refl, creation-refused _ _ (contents_of c.args.descr.now c.args.items.now) _ (sym c.if-not-has_room_for.ensures) c.in_err-owned.ensures)

pub returns-clause-answers : goal.returns-clause-answers
returns-clause-answers c = made-answers _ _ _ (contents_of c.args.descr.now c.args.items.now) c.in_ok-owned.owned _ _ (sym c.if-not-has_room_for.ensures) c.in_ok-owned.ensures c.bind_new.ensures.answers
