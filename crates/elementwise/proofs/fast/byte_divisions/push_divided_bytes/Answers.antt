use Rattle.std.proofs.Common.{◌≡◌, ◌<◌, ◌++◌, false, pos, sym, ap, subst, ◌∙◌, unsigned_abs, not, ◌==◌}
use Rattle.elementwise.proofs.Words.{Little, integer, low_bits, number, encode, exact, binary, division_op, number_pair, made_of}
use Rattle.elementwise.proofs.AddedLaws.{one-more, room-for}
use Rattle.elementwise.proofs.HeldLaws.{side-small}
use Rattle.elementwise.proofs.WordLaws.{are_bits, applied}
use Rattle.elementwise.proofs.fast.byte_divisions.push_divided_bytes.Goals as goal

pub push-requires : goal.push-requires
push-requires g c = room-for g.N.Number.WIDTH _ c.loop-k.k _ _ c.loop-k-test.true c.requires.room c.loop-k.invariant.left

pub quotient-requires-clause-left : goal.quotient-requires-clause-left
quotient-requires-clause-left g c =
    let scalar = g.N.Number.scalar g.O.Ordered.order in
    subst (λ z. unsigned_abs z < 256) (sym c.number.ensures ∙ c.bits-left.ensures.exact ∙ λ i. integer (c.requires.unsigned i) 8 c.bits-left.result)
    (side-small scalar c.args.pairs.left c.loop-k.k 1 c.note_slice.ensures (g.met.N.Number.is_number g.O.Ordered.order) (g.met.N.Number.has_width g.O.Ordered.order ∙ c.requires.byte))

pub quotient-requires-clause-right : goal.quotient-requires-clause-right
quotient-requires-clause-right g c =
    let scalar = g.N.Number.scalar g.O.Ordered.order in
    subst (λ z. unsigned_abs z < 256) (sym c.number-in-loop-k.ensures ∙ c.bits-right.ensures.exact ∙ λ i. integer (c.requires.unsigned i) 8 c.bits-right.result)
    (side-small scalar c.args.pairs.right c.loop-k.k 1 c.note_slice-2.ensures (g.met.N.Number.is_number g.O.Ordered.order) (g.met.N.Number.has_width g.O.Ordered.order ∙ c.requires.byte))

pub loop-k-preserved : goal.loop-k-preserved
loop-k-preserved g c =
    let k = c.loop-k.k in
    let scalar = g.N.Number.scalar g.O.Ordered.order in
    let to = g.N.Number.scalar Little in
    let op = division_op (not (g.row.LEAVES == 0)) in
    let made = made_of (number_pair scalar scalar to (binary op to)) c.args.pairs in
    let unsigned = c.requires.unsigned in
    let left : integer false 8 c.bits-left.result ≡ g.N.Number.value c.number.result = (λ i. integer (sym unsigned i) 8 c.bits-left.result) ∙ sym c.bits-left.ensures.exact in
    let right : integer false 8 c.bits-right.result ≡ g.N.Number.value c.number-in-loop-k.result = (λ i. integer (sym unsigned i) 8 c.bits-right.result) ∙ sym c.bits-right.ensures.exact in
    let value = applied op to _ _ _ c.division-bits.result (g.met.N.Number.is_number Little) (g.met.N.Number.is_truth Little c.number.result) (g.met.N.Number.is_truth Little c.number-in-loop-k.result)
    (c.of_bits.ensures Little (pos c.division-bits.result) (are_bits c.division-bits.result c.division-bits.type_inv))
    (c.division-bits.ensures false to c.quotient.ensures ∙ λ i. low_bits 8 (exact op to (left i) (right i))) in
    let is = ap (λ z. encode to (number z)) (value ∙ λ i. binary op to (c.number.ensures i) (c.number-in-loop-k.ensures i)) in
    one-more made g.N.Number.WIDTH k c.args.block c.loop-k.block _ c.loop-k.invariant (record { bytes = c.push.ensures.bytes ∙ ap (λ l. c.loop-k.block.0 ++ l) is; left = c.push.ensures.left })
