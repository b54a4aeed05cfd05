use Rattle.std.proofs.Common.{◌≡◌, ◌≤◌, ◌*◌, List, ℕ, true, sym, ap, ◌∙◌, inr, subst}
use Rattle.bench_engine.proofs.Words.{err_from_is_err_and, Descr, item_size, count, max_bytes, stretched, can_cast, is_scalar, ScalarDescr, operation_scalar, operation_on}
use Rattle.bench_engine.specs.NewArrayLaws.{passed}
use Rattle.bench_engine.proofs.Updates.{changed-type, changed-record, changed-kind, changed-apart, changed-worked, changed-done, changed-gives, worked-descr, worked-shape, view-can, kind-casts, own_values, stands-own}
use Rattle.bench_engine.proofs.Views.{given-view}
use Rattle.bench_engine.proofs.update.changed_by_items.Goals as goal

pub returns-in_err-scalar : goal.returns-in_err-scalar
returns-in_err-scalar c v w sv sw =
    let p = err_from_is_err_and c.from_residual.result c.from_residual.ensures.1 in
    rw (p.1, p.2) (inr (changed-type c.args.operation c.args.old.descr.now v w _ (ap (operation_scalar c.args.operation c.args.old.descr.now) sw.descr ∙ c.in_err-scalar.ensures)))

pub returns-in_err-scalar_of : goal.returns-in_err-scalar_of
returns-in_err-scalar_of c v w sv sw =
    let p = err_from_is_err_and c.from_residual-in_err-scalar_of.result c.from_residual-in_err-scalar_of.ensures.1 in
    rw (p.1, p.2) (inr (changed-record c.args.operation c.args.old.descr.now v w _ _ (ap (operation_scalar c.args.operation c.args.old.descr.now) sw.descr ∙ c.in_ok-scalar.ensures) c.in_err-scalar_of.ensures))

pub returns-in_err-same_kind : goal.returns-in_err-same_kind
returns-in_err-same_kind c v w sv sw =
    let p = err_from_is_err_and c.from_residual-in_err-same_kind.result c.from_residual-in_err-same_kind.ensures.1 in
    rw (p.1, p.2) (inr (changed-kind c.args.operation c.args.old.descr.now v w _ _ _ (ap (operation_scalar c.args.operation c.args.old.descr.now) sw.descr ∙ c.in_ok-scalar.ensures) c.in_ok-scalar_of.ensures c.in_err-same_kind.ensures))

pub returns-in_err-stretch : goal.returns-in_err-stretch
returns-in_err-stretch c v w sv sw =
    let p = err_from_is_err_and c.from_residual-in_err-stretch.result c.from_residual-in_err-stretch.ensures.1 in
    let there = stretched c.args.items.layout.now.shape c.args.old.layout.now.shape in
    rw (p.1, p.2) (passed there _ _ (λ bad. changed-apart c.args.operation c.args.old.descr.now v w _ _ _ (ap (operation_scalar c.args.operation c.args.old.descr.now) sw.descr ∙ c.in_ok-scalar.ensures) c.in_ok-scalar_of.ensures c.in_ok-same_kind.ensures
    ((λ i. stretched (sw.shape i) (sv.shape i)) ∙ bad)) c.in_err-stretch.ensures)

pub returns-in_err-new : goal.returns-in_err-new
returns-in_err-new c v w sv sw =
    let p = err_from_is_err_and c.from_residual-in_err-new.result c.from_residual-in_err-new.ensures.1 in
    let there = given-view c.args.items.layout.now _ (stretched c.args.items.layout.now.shape c.args.old.layout.now.shape) c.in_ok-stretch.ensures in
    rw (p.1, p.2) (passed (operation_on c.args.operation v w) _ _ (λ bad. changed-worked c.args.operation c.args.old.descr.now v w _ _ there.0 _ (ap (operation_scalar c.args.operation c.args.old.descr.now) sw.descr ∙ c.in_ok-scalar.ensures) c.in_ok-scalar_of.ensures c.in_ok-same_kind.ensures
    ((λ i. stretched (sw.shape i) (sv.shape i)) ∙ there.1) bad) (c.in_err-new.ensures.gives v w sv sw))

pub as_old-requires-clause-can : goal.as_old-requires-clause-can
as_old-requires-clause-can c =
    let good = c.in_ok-new.ensures.gives (own_values c.args.old) (own_values c.args.items) (stands-own c.args.old) (stands-own c.args.items) in
    let typed = worked-descr c.args.operation (own_values c.args.old) (own_values c.args.items) c.in_ok-new.new _ c.in_ok-scalar.ensures good in
    subst (λ (d : Descr). can_cast d c.args.old.descr.now ≡ true) (sym typed) (subst (λ (d : Descr). can_cast (ScalarDescr c.in_ok-scalar.scalar) d ≡ true) (sym (is_scalar c.args.old.descr.now _ c.in_ok-scalar_of.ensures))
    (kind-casts c.in_ok-scalar.scalar _ c.in_ok-same_kind.ensures))

pub as_old-requires-clause-few : goal.as_old-requires-clause-few
as_old-requires-clause-few c =
    let good = c.in_ok-new.ensures.gives (own_values c.args.old) (own_values c.args.items) (stands-own c.args.old) (stands-own c.args.items) in
    let there = given-view c.args.items.layout.now _ (stretched c.args.items.layout.now.shape c.args.old.layout.now.shape) c.in_ok-stretch.ensures in
    let shaped = worked-shape c.args.operation (own_values c.args.old) (own_values c.args.items) c.in_ok-new.new (view-can c.args.items.layout.now.shape c.args.old.layout.now.shape there.0 there.1) good in
    subst (λ (l : List ℕ). count l * item_size c.args.old.descr.now ≤ max_bytes) (sym shaped) c.requires.few

pub returns : goal.returns
returns c v w sv sw =
    let there = given-view c.args.items.layout.now _ (stretched c.args.items.layout.now.shape c.args.old.layout.now.shape) c.in_ok-stretch.ensures in
    let fits = (λ i. stretched (sw.shape i) (sv.shape i)) ∙ there.1 in
    let good = c.in_ok-new.ensures.gives v w sv sw in
    let shaped = worked-shape c.args.operation v w c.in_ok-new.new (view-can w.shape v.shape there.0 fits) good in
    changed-gives c.args.old.descr.now (count v.shape) c.in_ok-new.new c.as_old.result _ c.in_ok-new.ensures.order
    (changed-done c.args.operation c.args.old.descr.now v w _ _ there.0 _ (ap (operation_scalar c.args.operation c.args.old.descr.now) sw.descr ∙ c.in_ok-scalar.ensures) c.in_ok-scalar_of.ensures c.in_ok-same_kind.ensures fits good) (ap count (sym shaped)) c.as_old.ensures
