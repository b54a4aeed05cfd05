use Rattle.std.proofs.Common.{subst, ◌∙◌, Ok, Err}
use Rattle.bench_engine.proofs.Words.{err_from_is_err_and, Target, Plan, Descr, count, Given, IsGiven, HoldsItems, operand_values, updated, IsTarget, IsTargetOf, Meets}
use Rattle.bench_engine.proofs.Moved.{unmoved-gives}
use Rattle.bench_engine.proofs.OperandLaws.{all-stand}
use Rattle.bench_engine.proofs.Written.{plan-inside, old-plan}
use Rattle.bench_engine.proofs.update.updated.Goals as goal

pub view_by_literal-requires : goal.view_by_literal-requires
view_by_literal-requires c =
    let t = c.requires in
    let at = t.3 in
    subst (IsTargetOf c.args.array.now) c.in-View.is (t.0, at.0, at.1, at.2, at.3, at.4)

pub items-requires : goal.items-requires
items-requires c =
    let t = c.requires in
    let is = subst (λ (g : Given). IsGiven t.0 t.1 g) c.in-Items.is t.2 in
    (t.0, is.1, is.4)

pub view_by_items-requires : goal.view_by_items-requires
view_by_items-requires c =
    let t = c.requires in
    let at = t.3 in
    subst (IsTargetOf c.args.array.now) c.in-View.is (t.0, at.0, at.1, at.2, at.3, at.4)

pub returns-in-Items : goal.returns-in-Items
returns-in-Items c s value given name a part shows target =
    let is = subst (λ (g : Given). IsGiven s value g) c.in-Items.is given in
    rw (is.2, is.3) (c.view_by_items.ensures (operand_values s is.1) (all-stand s is.1 _ (c.items.ensures.stands s is.1 is.4)) s name a part shows (subst (λ (t : Target). IsTarget s name a t part) c.in-View.is target))

pub gather_owned-requires : goal.gather_owned-requires
gather_owned-requires c =
    let t = c.requires in
    let at = t.3 in
    plan-inside t.0 at.0 at.1 at.2 c.args.array.now at.3 _ (subst (λ (t' : Target). IsTarget t.0 at.0 at.1 t' at.2) c.in-Plan.is at.4)

pub returns-in_err-new-in-Plan : goal.returns-in_err-new-in-Plan
returns-in_err-new-in-Plan c s value given name a part shows target =
    let p = err_from_is_err_and c.from_residual-in_err-new-in-Plan.result c.from_residual-in_err-new-in-Plan.ensures.1 in
    let is = subst (λ (t : Target). IsTarget s name a t part) c.in-Plan.is target in
    let e = c.in_ok-old-in-Plan.ensures in
    let own = c.items-in-Plan.ensures in
    let stands = all-stand s part c.items-in-Plan.result (old-plan s name a part c.args.array.now shows _ c.in_ok-old-in-Plan.old c.items-in-Plan.result is e.descr e.shape e.items own.block own.layout own.descr) in
    let refused = Err c.in_err-new-in-Plan.field-0.0 in
    rw (p.1, p.2) (unmoved-gives s name a part c.args.array.now (Plan c.in-Plan.plan) refused (updated s c.args.array.now.descr.now part c.args.operation value) shows is
    (subst (λ (d : Descr). Meets (HoldsItems d (count part.shape)) refused (updated s d part c.args.operation value)) (own.descr ∙ e.descr) (c.in_err-new-in-Plan.ensures s value (operand_values s part) given stands)))

pub returns-in_ok-new-in-Plan : goal.returns-in_ok-new-in-Plan
returns-in_ok-new-in-Plan c s value given name a part shows target =
    let is = subst (λ (t : Target). IsTarget s name a t part) c.in-Plan.is target in
    let e = c.in_ok-old-in-Plan.ensures in
    let own = c.items-in-Plan.ensures in
    let stands = all-stand s part c.items-in-Plan.result (old-plan s name a part c.args.array.now shows _ c.in_ok-old-in-Plan.old c.items-in-Plan.result is e.descr e.shape e.items own.block own.layout own.descr) in
    let new = Ok c.in_ok-new-in-Plan.new in
    unmoved-gives s name a part c.args.array.now (Plan c.in-Plan.plan) new (updated s c.args.array.now.descr.now part c.args.operation value) shows is
    (subst (λ (d : Descr). Meets (HoldsItems d (count part.shape)) new (updated s d part c.args.operation value)) (own.descr ∙ e.descr) (c.in_ok-new-in-Plan.ensures s value (operand_values s part) given stands))
