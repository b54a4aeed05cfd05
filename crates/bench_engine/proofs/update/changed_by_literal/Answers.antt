use Rattle.std.proofs.Common.{◌≡◌, ◌≤◌, ◌*◌, List, ℕ, true, sym, ap, ◌∙◌, refl, inr, subst}
use Rattle.bench_engine.proofs.Words.{is_ok, false≢true, err_from_is_err_and, same_answer, Descr, Scalar, item_size, count, max_bytes, IsShape, can_cast, same_kind, scalar_of, is_scalar, ScalarDescr, changed_with, literal_values, operation_with}
use Rattle.bench_engine.specs.NewArrayLaws.{passed}
use Rattle.bench_engine.proofs.Updates.{changed-record, changed-kind, changed-done, changed-gives, kind-casts, literal-parts, literal-refused, own_values, stands-own}
use Rattle.bench_engine.proofs.update.changed_by_literal.Goals as goal

pub returns-in_err-new : goal.returns-in_err-new
returns-in_err-new c v sv =
    let p = err_from_is_err_and c.from_residual.result c.from_residual.ensures.1 in
    let lengths = c.as_slice-lengths.ensures in
    let legal = subst IsShape (sym sv.shape) (record { axes = lengths.rank; lengths = lengths.lengths; items = lengths.items }) in
    rw (p.1, p.2) (passed (operation_with c.args.operation v (literal_values c.args.operation v.descr c.args.literal.now)) _ _ (literal-refused c.args.operation c.args.old.descr.now v c.args.literal.now _ legal sv.descr) (c.in_err-new.ensures.gives v sv))

pub returns-in_err-scalar : goal.returns-in_err-scalar
returns-in_err-scalar c v sv =
    let parts = literal-parts c.args.operation c.args.old.descr.now v c.args.literal.now c.in_ok-new.new sv.descr (c.in_ok-new.ensures.gives v sv) in
    absurd (false≢true (sym (ap is_ok (sym (ap scalar_of parts.7) ∙ c.in_err-scalar.ensures))))

pub returns-in_err-scalar_of : goal.returns-in_err-scalar_of
returns-in_err-scalar_of c v sv =
    let p = err_from_is_err_and c.from_residual-in_err-scalar_of.result c.from_residual-in_err-scalar_of.ensures.1 in
    let parts = literal-parts c.args.operation c.args.old.descr.now v c.args.literal.now c.in_ok-new.new sv.descr (c.in_ok-new.ensures.gives v sv) in
    rw (p.1, p.2) (inr (ap (changed_with c.args.operation c.args.old.descr.now v) parts.2 ∙ changed-record c.args.operation c.args.old.descr.now v parts.0 parts.1 _ parts.6 c.in_err-scalar_of.ensures))

pub returns-in_err-same_kind : goal.returns-in_err-same_kind
returns-in_err-same_kind c v sv =
    let p = err_from_is_err_and c.from_residual-in_err-same_kind.result c.from_residual-in_err-same_kind.ensures.1 in
    let parts = literal-parts c.args.operation c.args.old.descr.now v c.args.literal.now c.in_ok-new.new sv.descr (c.in_ok-new.ensures.gives v sv) in
    let own : parts.1 ≡ c.in_ok-scalar.scalar = same_answer parts.1 c.in_ok-scalar.scalar (sym (ap scalar_of parts.7) ∙ c.in_ok-scalar.ensures) in
    rw (p.1, p.2) (inr (ap (changed_with c.args.operation c.args.old.descr.now v) parts.2
    ∙ changed-kind c.args.operation c.args.old.descr.now v parts.0 parts.1 _ _ parts.6 c.in_ok-scalar_of.ensures (ap (λ (s : Scalar). same_kind s c.in_ok-scalar_of.field-0) own ∙ c.in_err-same_kind.ensures)))

pub as_old-requires-clause-can : goal.as_old-requires-clause-can
as_old-requires-clause-can c =
    subst (λ (d : Descr). can_cast d c.args.old.descr.now ≡ true) (sym (is_scalar c.in_ok-new.new.descr _ c.in_ok-scalar.ensures)) (subst (λ (d : Descr). can_cast (ScalarDescr c.in_ok-scalar.scalar) d ≡ true) (sym (is_scalar c.args.old.descr.now _ c.in_ok-scalar_of.ensures))
    (kind-casts c.in_ok-scalar.scalar _ c.in_ok-same_kind.ensures))

pub as_old-requires-clause-few : goal.as_old-requires-clause-few
as_old-requires-clause-few c =
    let v = own_values c.args.old in
    let parts = literal-parts c.args.operation c.args.old.descr.now v c.args.literal.now c.in_ok-new.new refl (c.in_ok-new.ensures.gives v (stands-own c.args.old)) in
    subst (λ (l : List ℕ). count l * item_size c.args.old.descr.now ≤ max_bytes) (sym parts.5) c.requires.few

pub returns : goal.returns
returns c v sv =
    let parts = literal-parts c.args.operation c.args.old.descr.now v c.args.literal.now c.in_ok-new.new sv.descr (c.in_ok-new.ensures.gives v sv) in
    let own : parts.1 ≡ c.in_ok-scalar.scalar = same_answer parts.1 c.in_ok-scalar.scalar (sym (ap scalar_of parts.7) ∙ c.in_ok-scalar.ensures) in
    changed-gives c.args.old.descr.now (count v.shape) c.in_ok-new.new c.as_old.result _ c.in_ok-new.ensures.order
    (ap (changed_with c.args.operation c.args.old.descr.now v) parts.2
    ∙ changed-done c.args.operation c.args.old.descr.now v parts.0 parts.1 _ _ _ parts.6 c.in_ok-scalar_of.ensures (ap (λ (s : Scalar). same_kind s c.in_ok-scalar_of.field-0) own ∙ c.in_ok-same_kind.ensures) parts.4 parts.3) (ap count (sym parts.5)) c.as_old.ensures
