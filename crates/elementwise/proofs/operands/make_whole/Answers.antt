use Rattle.std.proofs.Common.{◌≡◌, ◌*◌, ◌≤◌, List, [], ◌∷◌, length, map, sym, ap, ◌∙◌, arith}
use Rattle.elementwise.proofs.Words.{mul-le-mul_left, ScalarDescr, LeafValue, size, item_size, item_from, count, offsets, can_stretch, cast_item, pairwise, value_in, stretched_items, left_of, right_of, target_of, gives}
use Rattle.elementwise.proofs.PairLaws.{pairwise-map}
use Rattle.elementwise.proofs.StretchedLaws.{inside}
use Rattle.elementwise.proofs.TypedLaws.{stretched-cast}
use Rattle.elementwise.proofs.MadeLaws.{made-in}
use Rattle.elementwise.proofs.operands.make_whole.Goals as goal

pub stretched_to-requires : goal.stretched_to-requires
stretched_to-requires c = (λ i. can_stretch ((c.items-left.ensures.shape ∙ c.in_ok-left_held.ensures.shape) i) c.args.both.shape.now) ∙ c.args.both.first

pub stretched_to-requires-2 : goal.stretched_to-requires-2
stretched_to-requires-2 c = (λ i. can_stretch ((c.items-right.ensures.shape ∙ c.in_ok-right_held.ensures.shape) i) c.args.both.shape.now) ∙ c.args.both.second

pub invariant_of-operands : goal.invariant_of-operands
invariant_of-operands c =
    let x = c.items-left.result in
    record { inside = inside (length x.block.now) (item_size x.descr.now) c.in_ok-first.ensures x.inside }

pub invariant_of-operands-2 : goal.invariant_of-operands-2
invariant_of-operands-2 c =
    let y = c.items-right.result in
    record { inside = inside (length y.block.now) (item_size y.descr.now) c.in_ok-second.ensures y.inside }

pub made-requires : goal.made-requires
made-requires c =
    let n = count c.args.both.shape.now in
    let to = size (target_of c.args.pairing.now) in
    let same : count c.in_ok-first.first.shape * to ≡ n * to = ap (λ s. count s * to) c.in_ok-first.ensures.shape in
    let most : n * to ≤ n * 8 = mul-le-mul_left n c.requires.small.2 in
    record {
      can = c.requires.can;
      left = c.items-left.ensures.descr ∙ c.in_ok-left_held.ensures.descr ∙ ap ScalarDescr c.left.ensures;
      right = c.items-right.ensures.descr ∙ c.in_ok-right_held.ensures.descr ∙ ap ScalarDescr c.right.ensures;
      few = omega (arith, same, most, c.items-items.ensures.value, c.items-items.ensures.limit);
    }

pub returns : goal.returns
returns c =
    let p = c.args.pairing.now in
    let x = c.args.both.left in
    let y = c.args.both.right in
    let shape = c.args.both.shape.now in
    let held = c.items-left.result in
    let held' = c.items-right.result in
    let cast = cast_item x.descr.now (ScalarDescr (left_of p)) in
    let cast' = cast_item y.descr.now (ScalarDescr (right_of p)) in
    let make = λ (u v : List LeafValue). gives p (value_in u) (value_in v) ∷ [] in
    let first = ap (map (item_from held.descr.now held.block.now)) c.in_ok-first.ensures.places ∙ stretched-cast cast x.descr.now held.descr.now x.block.now held.block.now x.layout.now held.layout.now shape (c.items-left.ensures.shape ∙ c.in_ok-left_held.ensures.shape) c.args.both.first
    (c.items-left.ensures.items ∙ c.in_ok-left_held.ensures.items ∙ λ i. map (cast_item x.descr.now (ScalarDescr (c.left.ensures i))) (map (item_from x.descr.now x.block.now) (offsets x.layout.now))) in
    let second = ap (map (item_from held'.descr.now held'.block.now)) c.in_ok-second.ensures.places ∙ stretched-cast cast' y.descr.now held'.descr.now y.block.now held'.block.now y.layout.now held'.layout.now shape (c.items-right.ensures.shape ∙ c.in_ok-right_held.ensures.shape) c.args.both.second
    (c.items-right.ensures.items ∙ c.in_ok-right_held.ensures.items ∙ λ i. map (cast_item y.descr.now (ScalarDescr (c.right.ensures i))) (map (item_from y.descr.now y.block.now) (offsets y.layout.now))) in
    made-in (ScalarDescr (target_of p)) c.in_ok-first.first.shape shape _ _ c.made.result c.in_ok-first.ensures.shape
    ((λ i. pairwise make (first i) (second i))
    ∙ pairwise-map make cast cast' (stretched_items x.descr.now x.block.now x.layout.now shape) (stretched_items y.descr.now y.block.now y.layout.now shape))
    c.made.ensures

pub invariant_of-operands-3 : goal.invariant_of-operands-3
invariant_of-operands-3 c = record { even = c.in_ok-first.ensures.shape ∙ sym c.in_ok-second.ensures.shape }
