use Rattle.std.proofs.Common.{◌≡◌, ◌+◌, ◌*◌, ◌%◌, ◌^◌, ◌≤◌, ◌++◌, suc, pos, ◌+ℤ◌, ◌*ℤ◌, sym, ap, ◌∙◌, append_assoc, append-nil, arith, add-mul}
use Rattle.literal_items.proofs.Words.{Decides-int_eq, wrap, suc-mul, zero-mul, mul-le-mul_right, number, encode, low_bits, none_more, joined, numbered}
use Rattle.literal_items.proofs.Counted.{next_bits, bits_of_value, value_at}
use Rattle.literal_items.proofs.range.CountingNumberTask.run.Goals as goal

pub loop-done-init : goal.loop-done-init
loop-done-init g c =
    let none : 0 * g.N.Number.WIDTH ≡ 0 = zero-mul g.N.Number.WIDTH in
    record {
      bits = c.low_bits-bits.ensures ∙ ap (low_bits 8) (sym (none_more c.args.self.start.now c.args.self.step.now));
      bytes = sym (append-nil c.args.self.block.0);
      left = omega (arith, none);
    }

pub push-requires : goal.push-requires
push-requires g c =
    let width = g.N.Number.WIDTH in
    let most : suc c.loop-done._done * width ≤ c.args.self.count * width = mul-le-mul_right width c.loop-done-test.true in
    let room = rw (g.met.N.Number.has_width g.O.Ordered.order) at c.requires.1 in
    omega (arith, most, suc-mul c.loop-done._done width, room, c.loop-done.invariant.left)

pub loop-done-preserved : goal.loop-done-preserved
loop-done-preserved g c =
    let k = c.loop-done._done in
    let scalar = g.N.Number.scalar g.O.Ordered.order in
    let start = c.args.self.start.now in let step = c.args.self.step.now in
    let made = numbered scalar start step in
    let z = start +ℤ step *ℤ pos k in
    let held = value_at scalar start step c.args.self.count k c.requires.0 c.loop-done-test.true in
    let are = bits_of_value scalar z c.loop-done.bits (g.met.N.Number.is_number g.O.Ordered.order) held c.loop-done.invariant.bits in
    let is : g.N.Number.value c.of_bits.result ≡ z = c.of_bits.ensures g.O.Ordered.order z are ∙ (Decides-int_eq (wrap scalar z) z).0 held in
    let next : suc k ≡ k + 1 = omega arith in
    record {
      bits = ap (λ s. (c.loop-done.bits + s) % 2 ^ 64) c.low_bits-step.ensures ∙ next_bits start step k c.loop-done.bits c.loop-done.invariant.bits;
      bytes = c.push.ensures.bytes ∙ (λ i. c.loop-done.invariant.bytes i ++ encode scalar (number (is i))) ∙ append_assoc c.args.self.block.0 (joined made k) (made k) ∙ ap (λ m. c.args.self.block.0 ++ joined made m) next;
      left = let parts = add-mul k 1 g.N.Number.WIDTH in omega (arith, parts, c.push.ensures.left, c.loop-done.invariant.left);
    }
