use Rattle.std.proofs.Common.{◌≡◌, ◌+◌, ◌*◌, ◌<◌, ◌≤◌, ◌++◌, length, map, refl, sym, ap, ◌∙◌, arith, add-mul, mul-le-mul_right}
use Rattle.elementwise.proofs.Words.{mul-le-mul, flat_map, flat_map-append, ScalarDescr, size, item_size, item_from, encode_item, count, multiples, run_front, run_items, all_given, run_part, target_of}
use Rattle.elementwise.proofs.ChunkLaws.{count-given, long-given, given-are, given-more, many_left, many_right, runs_given}
use Rattle.elementwise.proofs.EncodedLaws.{items-read}
use Rattle.elementwise.proofs.MadeLaws.{made-as, over-made}
use Rattle.elementwise.proofs.fast.chunks.make_by_chunks.Goals as goal

pub push_chunk-requires-clause-within : goal.push_chunk-requires-clause-within
push_chunk-requires-clause-within c = omega (arith, c.min-count.ensures, c.loop-done-test.true, c.items-many.ensures.value, many_left c.args.runs)

pub push_chunk-requires-clause-room : goal.push_chunk-requires-clause-room
push_chunk-requires-clause-room c =
    let n = c.min-count.result in
    let done = c.loop-done.done in
    let width = size (target_of c.args.pairing.now) in
    let most : (done + n) * width ≤ c.items-many.result * width = mul-le-mul_right width (omega (arith, c.min-count.ensures, c.loop-done-test.true)) in
    omega (arith, most, add-mul done n width, c.loop-done.invariant.room)

pub loop-done-preserved : goal.loop-done-preserved
loop-done-preserved c =
    let p = c.args.pairing.now in
    let r = c.args.runs in
    let n = c.min-count.result in
    let done = c.loop-done.done in
    let so_far = c.loop-done.invariant in
    let encoded = flat_map (encode_item (ScalarDescr (target_of p))) in
    let front = all_given p r.both (run_front done r.left) (run_front done r.right) in
    let more = all_given p r.both (run_part r.left done n) (run_part r.right done n) in
    let pushed = c.in_ok-block-2.ensures in
    let low : done < r.left.count = omega (arith, c.loop-done-test.true, c.items-many.ensures.value, many_left r) in
    record {
      made = pushed.bytes ∙ (λ i. so_far.made i ++ encoded more) ∙ sym (flat_map-append (encode_item (ScalarDescr (target_of p))) front more)
          ∙ ap encoded (sym (given-more p r.both r.left r.right done n r.begins.0 r.begins.1 (many_left r ∙ sym (many_right r)) low));
      room = omega (arith, pushed.left, so_far.room, add-mul done n (size (target_of p)));
      most = omega (arith, c.min-count.ensures, c.loop-done-test.true);
    }

pub over-requires-clause-whole : goal.over-requires-clause-whole
over-requires-clause-whole c =
    let p = c.args.pairing.now in
    let r = c.args.runs in
    let so_far = c.loop-done.invariant in
    let at : c.loop-done.done ≡ count r.both.shape.now = omega (arith, c.loop-done-test.false, so_far.most, c.items-many.ensures.value) in
    ap length (c.finish-block.ensures ∙ so_far.made)
    ∙ long-given p r.both (run_front c.loop-done.done r.left) (run_front c.loop-done.done r.right) c.requires.can refl
    ∙ λ i. at i * size (sym c.target-scalar.ensures i)

pub over-requires-clause-small : goal.over-requires-clause-small
over-requires-clause-small c =
    let p = c.args.pairing.now in
    let r = c.args.runs in
    let so_far = c.loop-done.invariant in
    let long = ap length (c.finish-block.ensures ∙ so_far.made) ∙ long-given p r.both (run_front c.loop-done.done r.left) (run_front c.loop-done.done r.right) c.requires.can refl in
    let most : c.loop-done.done * size (target_of p) ≤ c.items-many.result * 8 = mul-le-mul so_far.most c.requires.small.2 in
    omega (arith, long, most, c.items-many.ensures.limit)

pub returns : goal.returns
returns c =
    let p = c.args.pairing.now in
    let r = c.args.runs in
    let d = ScalarDescr (target_of p) in
    let so_far = c.loop-done.invariant in
    let shape = r.both.shape.now in
    let values = all_given p r.both r.left r.right in
    let at : c.loop-done.done ≡ r.left.count = omega (arith, c.loop-done-test.false, so_far.most, c.items-many.ensures.value, many_left r) in
    let at' : c.loop-done.done ≡ r.right.count = at ∙ many_left r ∙ sym (many_right r) in
    let wrote : c.finish-block.result ≡ flat_map (encode_item d) values = c.finish-block.ensures ∙ so_far.made ∙ λ i. flat_map (encode_item d) (all_given p r.both (run_front (at i) r.left) (run_front (at' i) r.right)) in
    let many : length values ≡ count shape = count-given p r.both r.left r.right (many_left r ∙ sym (many_right r)) ∙ many_left r in
    let are = given-are p c.requires.can r.both.left.descr.now r.both.right.descr.now (run_items r.both.left r.left) (run_items r.both.right r.right) in
    let owned = c.over.ensures in
    made-as d shape values _ c.over.result (runs_given r p)
    (over-made (ScalarDescr c.target-scalar.result) d shape values c.over.result c.finish-block.result (ap ScalarDescr c.target-scalar.ensures) owned.descr owned.shape owned.order owned.block
    ((λ i. map (item_from d (wrote i)) (multiples (item_size d) (sym many i))) ∙ items-read d values (flat_map (encode_item d) values) are) wrote)
