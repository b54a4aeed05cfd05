use Rattle.std.proofs.Common.{◌≡◌, ◌*◌, ◌^◌, ◌<◌, ℕ, sym, ap, subst, ◌∙◌, arith, rules, pos, ℤ, ◌+ℤ◌, ◌*ℤ◌, nat_abs, unsigned_abs}
use Rattle.elementwise.proofs.Words.{ints, Little, Scalar, number_of, decode, place, item_at, number_of_side, Side, IsTruth}
use Rattle.elementwise.proofs.HeldLaws.{side-small}
use Rattle.elementwise.proofs.fast.divisions.divisor_of.Goals as goal

-- if the step is 0, all items are the same
same_place : (at : ℕ) (step : ℤ) (k : ℕ) → step ≡ pos 0 → place at step k ≡ place at step 0
same_place at step k still =
    (λ i. nat_abs (pos at +ℤ pos k *ℤ still i)) ∙ (let none : nat_abs (pos at +ℤ pos k *ℤ pos 0) ≡ nat_abs (pos at +ℤ pos 0 *ℤ pos 0) = omega (arith, ints) in none) ∙ λ i. nat_abs (pos at +ℤ pos 0 *ℤ sym still i)

same_number : (scalar : Scalar) (s : Side) (k : ℕ) → s.run.step ≡ pos 0 → number_of_side scalar s k ≡ number_of_side scalar s 0
same_number scalar s k still = ap (λ at. number_of (decode scalar (item_at at s.width s.bytes.now))) (same_place s.run.offset s.run.step k still)

pub returns-clause-truth : goal.returns-clause-truth
returns-clause-truth g c = λ bool. subst IsTruth c.bits-bits.ensures.exact (g.met.N.Number.is_truth Little c.number.result bool)

pub returns-clause-each : goal.returns-clause-each
returns-clause-each g c =
    let scalar = g.N.Number.scalar g.O.Ordered.order in
    λ k below. same_number scalar c.args.pairs.right k (search rules) ∙ sym c.number.ensures ∙ c.bits-bits.ensures.exact

pub returns-clause-small : goal.returns-clause-small
returns-clause-small g c =
    let scalar = g.N.Number.scalar g.O.Ordered.order in
    let width = g.N.Number.WIDTH in
    subst (λ z. unsigned_abs z < 2 ^ (8 * width)) (sym c.number.ensures ∙ c.bits-bits.ensures.exact)
    (side-small scalar c.args.pairs.right 0 width c.note_slice.ensures (g.met.N.Number.is_number g.O.Ordered.order) (g.met.N.Number.has_width g.O.Ordered.order))
