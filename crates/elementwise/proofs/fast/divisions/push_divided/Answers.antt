use Rattle.std.proofs.Common.{◌*◌, ◌^◌, ◌<◌, ◌++◌, pos, sym, ap, subst, ◌∙◌, unsigned_abs, not, ◌==◌}
use Rattle.elementwise.proofs.Words.{Little, integer, low_bits, number, encode, exact, binary, division_op, number_pair, made_of}
use Rattle.elementwise.proofs.AddedLaws.{one-more, room-for}
use Rattle.elementwise.proofs.HeldLaws.{side-small}
use Rattle.elementwise.proofs.WordLaws.{are_bits, applied}
use Rattle.elementwise.proofs.fast.divisions.push_divided.Goals as goal

pub push-requires : goal.push-requires
push-requires g c = room-for g.N.Number.WIDTH _ c.loop-k.k _ _ c.loop-k-test.true c.requires.room c.loop-k.invariant.left

pub division-bits-requires-clause-left : goal.division-bits-requires-clause-left
division-bits-requires-clause-left g c =
    let scalar = g.N.Number.scalar g.O.Ordered.order in
    let width = g.N.Number.WIDTH in
    subst (λ w. unsigned_abs (integer c.SIGNED.result 8 c.bits.result) < 2 ^ (8 * w)) (sym c.WIDTH.ensures)
    (subst (λ z. unsigned_abs z < 2 ^ (8 * width)) (sym c.number-left.ensures ∙ c.bits.ensures.exact ∙ λ i. integer (sym c.SIGNED.ensures i) 8 c.bits.result)
    (side-small scalar c.args.pairs.left c.loop-k.k width c.note_slice.ensures (g.met.N.Number.is_number g.O.Ordered.order) (g.met.N.Number.has_width g.O.Ordered.order)))

pub loop-k-preserved : goal.loop-k-preserved
loop-k-preserved g c =
    let k = c.loop-k.k in
    let d = c.args.divisor in
    let signed = g.N.Number.SIGNED in
    let scalar = g.N.Number.scalar g.O.Ordered.order in
    let to = g.N.Number.scalar Little in
    let op = division_op (not (g.row.LEAVES == 0)) in
    let made = made_of (number_pair scalar scalar to (binary op to)) c.args.pairs in
    let by = integer signed 8 d.bits in
    let value = applied op to (g.N.Number.value c.number-left.result) by _ c.division-bits.result (g.met.N.Number.is_number Little) (g.met.N.Number.is_truth Little c.number-left.result) c.requires.truth
    (c.of_bits.ensures Little (pos c.division-bits.result) (are_bits c.division-bits.result c.division-bits.type_inv))
    (c.division-bits.ensures to
    ∙ (λ i. low_bits 8 (exact op to (integer (c.SIGNED.ensures i) 8 c.bits.result) (integer (c.SIGNED.ensures i) 8 d.bits)))
    ∙ λ i. low_bits 8 (exact op to (sym c.bits.ensures.exact i) by)) in
    let is = ap (λ z. encode to (number z)) (value ∙ λ i. binary op to (c.number-left.ensures i) (sym (c.requires.each k c.loop-k-test.true) i)) in
    one-more made g.N.Number.WIDTH k c.args.block c.loop-k.block _ c.loop-k.invariant (record { bytes = c.push.ensures.bytes ∙ ap (λ l. c.loop-k.block.0 ++ l) is; left = c.push.ensures.left })
