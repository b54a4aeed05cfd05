use Rattle.std.proofs.Common.{◌≡◌, ◌+◌, ◌*◌, ◌≤◌, List, [], ◌∷◌, All, length, map, refl, sym, ap, subst, ◌∙◌, arith}
use Rattle.elementwise.proofs.Words.{flat_map, ScalarDescr, LeafValue, count, encode_item, item_from, item_size, items, size, cast_item, pairwise, value_in, Operands, run_items, run_part, made_of_all, left_of, right_of, target_of, gives, pair_made}
use Rattle.elementwise.proofs.AddedLaws.{added-as}
use Rattle.elementwise.proofs.ChunkLaws.{part-inside, many_left, many_right}
use Rattle.elementwise.proofs.PairLaws.{pairwise-map}
use Rattle.elementwise.proofs.PairedLaws.{all_paired}
use Rattle.elementwise.proofs.fast.chunks.push_chunk.Goals as goal

pub part-requires-2-clause-few : goal.part-requires-2-clause-few
part-requires-2-clause-few c = let r = c.args.runs in omega (arith, many_left r, many_right r, r.few)

pub part-requires-2-clause-within : goal.part-requires-2-clause-within
part-requires-2-clause-within c = let r = c.args.runs in omega (arith, many_left r, many_right r, c.requires.within)

pub invariant_of-first : goal.invariant_of-first
invariant_of-first c =
    let r = c.args.runs in
    let x = r.both.left in
    let ends = λ (o : _). o + item_size x.descr.now ≤ length x.block.now in
    record {
      inside = subst (All ends) (sym c.in_ok-near.ensures.offsets)
          (part-inside (length x.block.now) (item_size x.descr.now) r.left c.args.chunk.first c.args.chunk.count r.begins.0 (subst (All ends) (sym r.same) x.inside)
          (omega (arith, c.requires.some, c.requires.within)) c.requires.within);
    }

pub invariant_of-second : goal.invariant_of-second
invariant_of-second c =
    let r = c.args.runs in
    let y = r.both.right in
    let within : c.args.chunk.first + c.args.chunk.count ≤ r.right.count = omega (arith, c.requires.within, many_left r, many_right r) in
    let ends = λ (o : _). o + item_size y.descr.now ≤ length y.block.now in
    record {
      inside = subst (All ends) (sym c.in_ok-far.ensures.offsets)
          (part-inside (length y.block.now) (item_size y.descr.now) r.right c.args.chunk.first c.args.chunk.count r.begins.1 (subst (All ends) (sym r.also) y.inside)
          (omega (arith, c.requires.some, within)) within);
    }

pub invariant_of-operands : goal.invariant_of-operands
invariant_of-operands c = record {
  even = c.items.ensures.shape ∙ c.in_ok-cast.ensures.shape ∙ c.in_ok-near.ensures.shape ∙ sym (c.items-2.ensures.shape ∙ c.in_ok-other.ensures.shape ∙ c.in_ok-far.ensures.shape);
}

pub returns : goal.returns
returns c =
    let p = c.args.pairing.now in
    let r = c.args.runs in
    let k = c.args.chunk.first in
    let n = c.args.chunk.count in
    let x = r.both.left in
    let y = r.both.right in
    let even = c.items.ensures.shape ∙ c.in_ok-cast.ensures.shape ∙ c.in_ok-near.ensures.shape ∙ sym (c.items-2.ensures.shape ∙ c.in_ok-other.ensures.shape ∙ c.in_ok-far.ensures.shape) in
    let o : Operands = record { left = c.items.result; right = c.items-2.result; even = even } in
    let cast = cast_item x.descr.now (ScalarDescr (left_of p)) in
    let cast' = cast_item y.descr.now (ScalarDescr (right_of p)) in
    let make = λ (u v : List LeafValue). gives p (value_in u) (value_in v) ∷ [] in
    let first : items c.items.result ≡ map cast (run_items x (run_part r.left k n)) =
    c.items.ensures.items ∙ c.in_ok-cast.ensures.items ∙ λ i. map (cast_item x.descr.now (ScalarDescr (c.left.ensures i))) (map (item_from x.descr.now x.block.now) (c.in_ok-near.ensures.offsets i)) in
    let second : items c.items-2.result ≡ map cast' (run_items y (run_part r.right k n)) =
    c.items-2.ensures.items ∙ c.in_ok-other.ensures.items ∙ λ i. map (cast_item y.descr.now (ScalarDescr (c.right.ensures i))) (map (item_from y.descr.now y.block.now) (c.in_ok-far.ensures.offsets i)) in
    let encoded = (all_paired p o c.requires.can.can
    (c.items.ensures.descr ∙ c.in_ok-cast.ensures.descr ∙ ap ScalarDescr c.left.ensures) (c.items-2.ensures.descr ∙ c.in_ok-other.ensures.descr ∙ ap ScalarDescr c.right.ensures)
    (made_of_all (pair_made p) o) refl).2 in
    let one : count (n ∷ []) ≡ n = omega arith in
    let many : count c.items.result.layout.now.shape ≡ n = ap count (c.items.ensures.shape ∙ c.in_ok-cast.ensures.shape ∙ c.in_ok-near.ensures.shape) ∙ one in
    added-as _ _ _ _ c.args.block c.push.result c.push.ensures (ap (λ m. m * size (target_of p)) many)
    (encoded ∙ ap (flat_map (encode_item (ScalarDescr (target_of p))))
    ((λ i. pairwise make (first i) (second i)) ∙ pairwise-map make cast cast' (run_items x (run_part r.left k n)) (run_items y (run_part r.right k n))))
