use Rattle.std.proofs.Common.{[], refl, sym, inl, Err}
use Rattle.bench_engine.proofs.Words.{err_from_is_err_and, held, bound_loaded}
use Rattle.bench_engine.specs.NewArrayLaws.{fresh-answers}
use Rattle.bench_engine.proofs.LoadedFiles.{load-full, find-refused, load-answers}
use Rattle.bench_engine.proofs.files.load.Goals as goal

pub returns-then-not-has_room_for-clause-answers : goal.returns-then-not-has_room_for-clause-answers
returns-then-not-has_room_for-clause-answers g c = load-full c.args.bench.now.state (g.N.NpyStore.shelf c.args.store.now) c.args.name.now c.args.file.now (sym c.if-not-has_room_for.ensures)

pub returns-in_err-owned-clause-answers : goal.returns-in_err-owned-clause-answers
returns-in_err-owned-clause-answers g c =
    let p = err_from_is_err_and c.from_residual.result c.from_residual.ensures.1 in
    rw (p.1, p.2) (find-refused c.args.bench.now.state _ _ c.args.name.now _ _ (sym c.if-not-has_room_for.ensures) c.in_err-owned.ensures)

pub returns-in_err-set_loaded_text-clause-answers : goal.returns-in_err-set_loaded_text-clause-answers
returns-in_err-set_loaded_text-clause-answers g c =
    let p = err_from_is_err_and c.from_residual-in_err-set_loaded_text.result c.from_residual-in_err-set_loaded_text.ensures.1 in
    rw p.1 (load-answers c.args.bench.now.state _ _ _ _ _ [] c.in_ok-owned.owned c.in_ok-owned.rest (Err _) (sym c.if-not-has_room_for.ensures) c.in_ok-owned.ensures (refl, inl (p.2, refl)))

pub returns-clause-answers : goal.returns-clause-answers
returns-clause-answers g c =
    let s = c.args.bench.now.state in
    let o = c.in_ok-owned.owned in
    load-answers s _ _ _ _ _ _ o c.in_ok-owned.rest c.bind.result (sym c.if-not-has_room_for.ensures) c.in_ok-owned.ensures
    (fresh-answers _ _ _ _ (λ choice. bound_loaded choice s c.args.name.now c.in_ok-owned.rest (held o)) o (held o) c.bind.result _ c.set_loaded_text.new.out refl (sym c.if-not-has_room_for.ensures) refl (λ choice. refl)
    c.in_ok-set_loaded_text.ensures c.bind.ensures.answers)
