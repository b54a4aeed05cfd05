use Rattle.std.proofs.Common.{◌≤◌, [], ◌∷◌, sym, subst, ◌∙◌, IfOk, rules}
use Rattle.elementwise.proofs.Words.{ScalarDescr, Scalar, size, number_size, IsNumber, BoolScalar, cast_item, pairwise, value_in, items_stretched, IsMade, left_of, right_of, gives}
use Rattle.elementwise.proofs.WorkLaws.{bool_small}
use Rattle.elementwise.proofs.PromotedLaws.{can-number}
use Rattle.elementwise.proofs.HeldLaws.{number-no_text, compared_all}
use Rattle.elementwise.proofs.MadeLaws.{made-as}
use Rattle.elementwise.proofs.scalar_comparisons.compare_scalars.Goals as goal

pub make_cast-requires : goal.make_cast-requires
make_cast-requires c =
    let s = c.in-Scalar-Scalar in
    let p = c.number_pairing-pairing.result in
    let is = c.number_pairing-pairing.ensures in
    let b = c.args.both in
    let number : IsNumber s.left = search rules in
    let other : IsNumber s.right = search rules in
    record {
      can = is.can;
      small = (number_size (left_of p) is.left.0, number_size (right_of p) is.right.0, subst (λ (s : Scalar). size s ≤ 8) (sym is.target) bool_small);
      left = can-number b.left.descr.now s.left (left_of p) s.is-0 (number-no_text s.left number) is.left.0;
      right = can-number b.right.descr.now s.right (right_of p) s.is-1 (number-no_text s.right other) is.right.0;
    }

pub returns-in_default-2 : goal.returns-in_default-2
returns-in_default-2 c =
    let s = c.in-Scalar-Scalar in
    let p = c.number_pairing-pairing.result in
    let is = c.number_pairing-pairing.ensures in
    let x = c.args.both.left in
    let y = c.args.both.right in
    let shape = c.args.both.shape.now in
    let number : IsNumber s.left = search rules in
    let other : IsNumber s.right = search rules in
    let given = pairwise (λ u v. gives p (value_in (cast_item x.descr.now (ScalarDescr (left_of p)) u)) (value_in (cast_item y.descr.now (ScalarDescr (right_of p)) v)) ∷ []) (items_stretched x shape) (items_stretched y shape) in
    made-as (ScalarDescr BoolScalar) shape given _ c.make_cast.result
    ((λ i. pairwise (λ u v. is.says (value_in (cast_item x.descr.now (ScalarDescr (left_of p)) u)) (value_in (cast_item y.descr.now (ScalarDescr (right_of p)) v)) i ∷ []) (items_stretched x shape) (items_stretched y shape))
    ∙ compared_all c.args.comparison (left_of p) (right_of p) x.descr.now y.descr.now x.block.now y.block.now x.layout.now y.layout.now shape (s.left, s.is-0, number, is.left.1) (s.right, s.is-1, other, is.right.1) is.left.0 is.right.0 (rw c.bytes.ensures at c.note_slice.ensures) (rw c.bytes-in_default-2.ensures at c.note_slice-in_default-2.ensures))
    (subst (λ (s : Scalar). IfOk c.make_cast.result (IsMade (ScalarDescr s) shape given)) is.target c.make_cast.ensures)
