use Rattle.std.proofs.Common.{◌≡◌, ◌*◌, ◌≤◌, List, [], ◌∷◌, map, refl, ap, ◌∙◌, arith}
use Rattle.elementwise.proofs.Words.{mul-le-mul_left, ScalarDescr, LeafValue, count, size, cast_item, pairwise, value_in, items_stretched, left_of, right_of, target_of, gives}
use Rattle.elementwise.proofs.MadeLaws.{made-in}
use Rattle.elementwise.proofs.PairLaws.{pairwise-map}
use Rattle.elementwise.proofs.StretchedLaws.{stretches-itself}
use Rattle.elementwise.proofs.fast.chunks.make_cast.Goals as goal

pub made-requires : goal.made-requires
made-requires c =
    let n = count c.args.both.shape.now in
    let to = size (target_of c.args.pairing.now) in
    let same : count c.args.both.left.layout.now.shape * to ≡ n * to = ap (λ s. count s * to) (c.if-stays.ensures.shape refl) in
    let most : n * to ≤ n * 8 = mul-le-mul_left n c.requires.small.2 in
    record {
      can = c.requires.can;
      left = ap ScalarDescr c.left.ensures;
      right = ap ScalarDescr c.right.ensures;
      few = omega (arith, same, most, c.items-items.ensures.value, c.items-items.ensures.limit);
    }

pub returns-then-stays-2 : goal.returns-then-stays-2
returns-then-stays-2 c =
    let p = c.args.pairing.now in
    let x = c.args.both.left in
    let y = c.args.both.right in
    let shape = c.args.both.shape.now in
    let make = λ (u v : List LeafValue). gives p (value_in u) (value_in v) ∷ [] in
    let first = c.if-stays.ensures.items refl ∙ λ i. map (cast_item x.descr.now (ScalarDescr (c.left.ensures i))) (stretches-itself x shape (c.if-stays.ensures.shape refl) i) in
    let second = c.if-stays-2.ensures.items refl ∙ λ i. map (cast_item y.descr.now (ScalarDescr (c.right.ensures i))) (stretches-itself y shape (c.if-stays-2.ensures.shape refl) i) in
    made-in (ScalarDescr (target_of p)) x.layout.now.shape shape _ _ c.made.result (c.if-stays.ensures.shape refl)
    ((λ i. pairwise make (first i) (second i))
    ∙ pairwise-map make (cast_item x.descr.now (ScalarDescr (left_of p))) (cast_item y.descr.now (ScalarDescr (right_of p))) (items_stretched x shape) (items_stretched y shape))
    c.made.ensures
