use Rattle.std.proofs.Common.{◌≡◌, ◌+◌, ◌++◌, length, codes, decimal, refl, ap, ◌∙◌, length-append, arith, Err}
use Rattle.bench_engine.proofs.Words.{common_steps, err_from_is_err_and}
use Rattle.bench_engine.proofs.Looks.{bound, unbound}
use Rattle.bench_engine.proofs.SavedFiles.{save-unknown, save-refused, save-not-stored, save-done, puts-answer}
use Rattle.bench_engine.proofs.files.save.Goals as goal

pub returns-in_err-array : goal.returns-in_err-array
returns-in_err-array g c =
    let p = err_from_is_err_and c.from_residual.result c.from_residual.ensures.1 in
    rw (p.1, p.2, c.in_err-array.ensures.0) (save-unknown c.args.bench.now.state (g.N.NpyStore.shelf c.args.store.now) c.args.name.now c.args.file.now (unbound c.args.bench.now.state c.args.name.now c.in_err-array.ensures.1))

pub npy_parts-requires : goal.npy_parts-requires
npy_parts-requires g c = record { inside = c.in_ok-array.ensures.1.2.inside }

pub returns-in_err-parts : goal.returns-in_err-parts
returns-in_err-parts g c =
    let p = err_from_is_err_and c.from_residual-in_err-parts.result c.from_residual-in_err-parts.ensures.1 in
    let it = c.in_ok-array.ensures.1 in
    rw (p.1, p.2) (save-refused c.args.bench.now.state (g.N.NpyStore.shelf c.args.store.now) c.args.name.now c.args.file.now it.0 c.in_ok-array.array _ it.1 (bound c.args.bench.now.state c.args.name.now it.0 it.1) it.2 c.in_err-parts.ensures.gives)

pub returns : goal.returns
returns g c =
    let it = c.in_ok-array.ensures.1 in
    let e = c.write_parts.ensures in
    save-not-stored c.args.bench.now.state _ _ c.args.name.now _ _ it.0 c.in_ok-array.array _ it.1 it.2 c.in_ok-parts.ensures.gives
    (rw c.as_slice-front.ensures.value at (puts-answer _ _ _ _ _ _ _ _ c.as_slice.ensures.value c.in-Err.is e.same e.cause e.kept e.written (ap Err c.refusal_of.ensures)))

pub returns-in-Ok : goal.returns-in-Ok
returns-in-Ok g c =
    let it = c.in_ok-array.ensures.1 in
    let e = c.write_parts.ensures in
    let bytes = c.in_ok-parts.parts.front.items ++ c.in_ok-parts.parts.items.now in
    let told : c.set.new.self ≡ codes "ok save " ++ decimal (length c.as_slice-front.result.now + length c.in_ok-parts.parts.items.now) = grind (arith, common_steps) in
    let len : length c.as_slice-front.result.now + length c.in_ok-parts.parts.items.now ≡ length bytes = omega (arith, ap length c.as_slice-front.ensures.value, length-append c.in_ok-parts.parts.front.items c.in_ok-parts.parts.items.now) in
    rw (told ∙ ap (λ n. codes "ok save " ++ decimal n) len) (save-done c.args.bench.now.state _ _ c.args.name.now _ _ it.0 c.in_ok-array.array _ it.1 it.2 c.in_ok-parts.ensures.gives
    (rw c.as_slice-front.ensures.value at (puts-answer _ _ _ _ _ _ _ _ c.as_slice.ensures.value c.in-Ok.is e.same e.cause e.kept e.written refl)))
