use Rattle.std.proofs.Common.{◌≡◌, ◌*◌, [], ◌∷◌, sym, ap, subst, ◌∙◌, arith}
use Rattle.elementwise.proofs.Words.{ScalarDescr, BoolScalar, decode, size, count, can-itself, AreComparable}
use Rattle.elementwise.proofs.MadeLaws.{made-as}
use Rattle.elementwise.proofs.IntegerLaws.{one_read, one-stretches, all_held}
use Rattle.elementwise.proofs.comparisons.compare_with_one.Goals as goal

pub from_lengths-requires : goal.from_lengths-requires
from_lengths-requires c = record { axes = omega arith; lengths = λ k d low. absurd (omega (arith, low)); items = omega arith }

pub over-requires-clause-whole : goal.over-requires-clause-whole
over-requires-clause-whole c =
    let all : count c.in_ok-shape.shape * size c.args.scalar.now ≡ 1 * size c.args.scalar.now = ap (λ s. count s * size c.args.scalar.now) c.in_ok-shape.ensures in
    omega (arith, c.requires.whole, all)

pub invariant_of-both : goal.invariant_of-both
invariant_of-both c =
    let shape = c.args.operand.layout.now.shape in
    record { first = can-itself shape; second = one-stretches c.items.result.layout.now.shape shape (ap (λ l. l.shape) c.items.ensures.layout ∙ c.in_ok-item.ensures.shape ∙ c.in_ok-shape.ensures) }

pub compare_once-requires : goal.compare_once-requires
compare_once-requires c = subst (AreComparable c.args.operand.descr.now) (sym (c.items.ensures.descr ∙ c.in_ok-item.ensures.descr)) c.requires.can

pub returns : goal.returns
returns c =
    let x = c.args.operand in
    let y = c.items.result in
    let s = c.args.scalar.now in
    let item = c.in_ok-item.ensures in
    made-as (ScalarDescr BoolScalar) x.layout.now.shape _ _ c.compare_once.result
    (all_held c.args.comparison x.descr.now y.descr.now x.block.now y.block.now x.layout.now y.layout.now (decode s c.args.block ∷ []) (ap (λ l. l.shape) c.items.ensures.layout ∙ item.shape ∙ c.in_ok-shape.ensures)
    (c.items.ensures.items ∙ one_read s c.in_ok-item.item c.in_ok-shape.shape c.args.block c.in_ok-shape.ensures item.descr item.order item.block c.requires.whole))
    c.compare_once.ensures
