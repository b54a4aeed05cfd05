use Rattle.std.proofs.Common.{ap, refl, subst, sym, ◌∙◌}
use Rattle.bench_engine.proofs.Words.{err_from_is_err_and, cast_contents, operand_part, operand_values, operation_contents, transformed, Computation, Gives, descriptor, AreSources, IsPart, held}
use Rattle.bench_engine.proofs.Answered.{met}
use Rattle.bench_engine.proofs.Casts.{cast-gives}
use Rattle.bench_engine.proofs.Computes.{combined-bad, combined-part, transformed-gives}
use Rattle.bench_engine.proofs.Copies.{copied-gives}
use Rattle.bench_engine.specs.NewArrayLaws.{passed}
use Rattle.bench_engine.proofs.OperandLaws.{all-stand}
use Rattle.bench_engine.proofs.Reduces.{reduced-gives}
use Rattle.bench_engine.proofs.operate.computed.Goals as goal

pub copy-requires : goal.copy-requires
copy-requires c =
    let it = subst (λ (k : Computation). AreSources c.args.bench.now.state k c.args.sources) c.in-Duplicate.is c.requires.sources in
    record { inside = it.2.inside }

pub returns-in-Duplicate : goal.returns-in-Duplicate
returns-in-Duplicate c =
    let it = subst (λ (k : Computation). AreSources c.args.bench.now.state k c.args.sources) c.in-Duplicate.is c.requires.sources in
    let e = c.copy.ensures in
    rw (c.in-Duplicate.is, it.1) (copied-gives c.args.bench.now.state it.0 c.args.sources.first c.in-Duplicate.order c.copy.result it.2 e.descr e.shape e.order e.items e.within e.refused)

pub items_of_view-requires : goal.items_of_view-requires
items_of_view-requires c =
    let it = subst (λ (k : Computation). AreSources c.args.bench.now.state k c.args.sources) c.in-Cast.is c.requires.sources in
    record { inside = it.2.inside }

pub returns-in_err-descr-in-Cast : goal.returns-in_err-descr-in-Cast
unfolding cast_contents
returns-in_err-descr-in-Cast c =
    let it = subst (λ (k : Computation). AreSources c.args.bench.now.state k c.args.sources) c.in-Cast.is c.requires.sources in
    let p = err_from_is_err_and c.from_residual.result c.from_residual.ensures.1 in
    rw (p.1, p.2, c.in-Cast.is, it.1) (passed (descriptor c.as_slice.result.now) _ _ (λ bad. rw (ap descriptor (sym c.as_slice.ensures) ∙ bad) refl) c.in_err-descr-in-Cast.ensures)

pub returns-in-Cast : goal.returns-in-Cast
returns-in-Cast c =
    let it = subst (λ (k : Computation). AreSources c.args.bench.now.state k c.args.sources) c.in-Cast.is c.requires.sources in
    let e = c.cast.ensures in
    let i = c.items_of_view.ensures in
    rw (c.in-Cast.is, it.1) (cast-gives c.args.bench.now.state it.0 c.args.sources.first _ c.in_ok-descr-in-Cast.descr c.cast.result it.2 (ap descriptor (sym c.as_slice.ensures) ∙ c.in_ok-descr-in-Cast.ensures) e.descr (rw i.layout at e.shape) (rw i.layout at e.order) (rw (i.block, i.layout, i.descr) at e.items)
    (rw i.descr at e.can) (rw i.layout at e.within) (rw (i.layout, i.descr) at e.refused))

pub operand_part-requires-clause-named : goal.operand_part-requires-clause-named
operand_part-requires-clause-named c =
    let s = c.args.bench.now.state in
    let it = subst (λ (k : Computation). AreSources s k c.args.sources) c.in-Combine.is c.requires.sources in
    it.0

pub operand_part-requires-in-Operand-clause-named : goal.operand_part-requires-in-Operand-clause-named
operand_part-requires-in-Operand-clause-named c =
    let s = c.args.bench.now.state in
    let it = subst (λ (k : Computation). AreSources s k c.args.sources) c.in-Combine.is c.requires.sources in
    rw (c.in-Operand.is, c.unwrap.ensures) at it.1

pub returns-in_err-left-in-Combine : goal.returns-in_err-left-in-Combine
unfolding operation_contents
returns-in_err-left-in-Combine c =
    let s = c.args.bench.now.state in
    let p = err_from_is_err_and c.from_residual-in_err-left-in-Combine.result c.from_residual-in_err-left-in-Combine.ensures.1 in
    rw (p.1, p.2, c.in-Combine.is) (passed (operand_part s _) _ _ (λ bad. rw bad refl) c.in_err-left-in-Combine.ensures)

pub returns-in_err-right-in-Operand : goal.returns-in_err-right-in-Operand
returns-in_err-right-in-Operand c =
    let s = c.args.bench.now.state in
    let p = err_from_is_err_and c.from_residual-in_err-right-in-Operand.result c.from_residual-in_err-right-in-Operand.ensures.1 in
    let is = met (IsPart s) c.in_ok-left-in-Combine.left (operand_part s _) c.in_ok-left-in-Combine.ensures in
    rw (p.1, p.2, c.in-Combine.is, c.in-Operand.is) (passed (operand_part s _) _ _ (combined-bad s c.in-Combine.operation _ _ is.0 _ is.1) c.in_err-right-in-Operand.ensures)

pub items-items-requires : goal.items-items-requires
items-items-requires c =
    let s = c.args.bench.now.state in
    let is = met (IsPart s) c.in_ok-left-in-Combine.left (operand_part s _) c.in_ok-left-in-Combine.ensures in
    (s, is.0, is.2)

pub items-requires : goal.items-requires
items-requires c =
    let s = c.args.bench.now.state in
    let other = met (IsPart s) c.in_ok-right-in-Operand.right (operand_part s _) c.in_ok-right-in-Operand.ensures in
    (s, other.0, other.2)

pub returns-in-Literal : goal.returns-in-Literal
returns-in-Literal c =
    let s = c.args.bench.now.state in
    let is = met (IsPart s) c.in_ok-left-in-Combine.left (operand_part s _) c.in_ok-left-in-Combine.ensures in
    rw c.in-Combine.is (subst (Gives held c.work_literal.result) (sym (combined-part s c.in-Combine.operation _ _ is.0 is.1))
    (rw c.in-Literal.is (c.work_literal.ensures.gives (operand_values s is.0) (all-stand s is.0 _ (c.items-items.ensures.stands s is.0 is.2)))))

pub returns-in-Combine : goal.returns-in-Combine
returns-in-Combine c =
    let s = c.args.bench.now.state in
    let is = met (IsPart s) c.in_ok-left-in-Combine.left (operand_part s _) c.in_ok-left-in-Combine.ensures in
    let other = met (IsPart s) c.in_ok-right-in-Operand.right (operand_part s _) c.in_ok-right-in-Operand.ensures in
    rw c.in-Combine.is (subst (Gives held c.work.result) (sym (combined-part s c.in-Combine.operation _ _ is.0 is.1))
    (rw (c.in-Operand.is, other.1) (c.work.ensures.gives (operand_values s is.0) (operand_values s other.0) (all-stand s is.0 _ (c.items-items.ensures.stands s is.0 is.2)) (all-stand s other.0 _ (c.items.ensures.stands s other.0 other.2)))))

pub items-requires-in-Transform : goal.items-requires-in-Transform
items-requires-in-Transform c =
    let s = c.args.bench.now.state in
    let is = met (IsPart s) c.in_ok-part-in-Transform.part (operand_part s _) c.in_ok-part-in-Transform.ensures in
    (s, is.0, is.2)

pub returns-in_err-part-in-Transform : goal.returns-in_err-part-in-Transform
unfolding transformed
returns-in_err-part-in-Transform c =
    let s = c.args.bench.now.state in
    let p = err_from_is_err_and c.from_residual-in_err-part-in-Transform.result c.from_residual-in_err-part-in-Transform.ensures.1 in
    rw (p.1, p.2, c.in-Transform.is) (passed (operand_part s _) _ _ (λ bad. rw bad refl) c.in_err-part-in-Transform.ensures)

pub returns-in-Transform : goal.returns-in-Transform
returns-in-Transform c =
    let s = c.args.bench.now.state in
    let is = met (IsPart s) c.in_ok-part-in-Transform.part (operand_part s _) c.in_ok-part-in-Transform.ensures in
    let e = c.apply1.ensures in
    rw c.in-Transform.is (transformed-gives s c.in-Transform.operation _ is.0 c.items-in-Transform.result c.apply1.result is.1 (c.items-in-Transform.ensures.stands s is.0 is.2) e.gives e.order e.items)

pub items_of_view-items-requires : goal.items_of_view-items-requires
items_of_view-items-requires c =
    let it = subst (λ (k : Computation). AreSources c.args.bench.now.state k c.args.sources) c.in-Reduce.is c.requires.sources in
    record { inside = it.2.inside }

pub returns : goal.returns
returns c =
    let it = subst (λ (k : Computation). AreSources c.args.bench.now.state k c.args.sources) c.in-Reduce.is c.requires.sources in
    let e = c.reduce.ensures in
    let i = c.items_of_view-items.ensures in
    rw c.in-Reduce.is (reduced-gives c.args.bench.now.state c.in-Reduce.reduction c.in-Reduce.source it.0 c.args.sources.first c.in-Reduce.axis c.in-Reduce.keep c.reduce.result it.1 it.2 (rw (i.layout, i.descr) at e.array) e.order
    (rw (i.block, i.layout, i.descr) at e.items))
