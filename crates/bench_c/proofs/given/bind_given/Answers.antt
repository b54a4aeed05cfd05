use Rattle.std.proofs.Common.{[], sym}
use Rattle.bench_c.proofs.Facts.{err_from_is_err_and}
use Rattle.bench_c.proofs.GivenLaws.{binds-unnamed, binds-full, binds-bad, binds-made}
use Rattle.bench_c.proofs.given.bind_given.Goals as goal

pub returns-in_err-name : goal.returns-in_err-name
returns-in_err-name c =
    let p = err_from_is_err_and c.from_residual.result c.from_residual.ensures.1 in
    rw (p.1, p.2) (binds-unnamed _ _ _ _ [] c.in_err-name.ensures)

pub returns-then-not-has_room_for : goal.returns-then-not-has_room_for
returns-then-not-has_room_for c = binds-full _ _ c.in_ok-name.name _ [] c.in_ok-name.ensures (sym c.if-not-has_room_for.ensures)

pub returns-in_err-owned : goal.returns-in_err-owned
returns-in_err-owned c =
    let p = err_from_is_err_and c.from_residual-in_err-owned.result c.from_residual-in_err-owned.ensures.1 in
    rw (p.1, p.2) (binds-bad _ _ c.in_ok-name.name _ _ [] c.in_ok-name.ensures (sym c.if-not-has_room_for.ensures) c.in_err-owned.ensures)

pub returns : goal.returns
returns c = binds-made _ _ _ c.in_ok-name.name _ c.in_ok-owned.owned c.bind_new.result _ c.in_ok-name.ensures (sym c.if-not-has_room_for.ensures) c.in_ok-owned.ensures c.bind_new.ensures.answers
