use Rattle.std.proofs.Common.{◌≡◌, subst, inl, inr, arith, rules}
use Rattle.elementwise.proofs.Words.{cases_lt, leaf_at}
use Rattle.elementwise.proofs.AlikeLaws.{alike}
use Rattle.elementwise.proofs.rules.castable.are_alike.Goals as goal

pub loop-k-preserved : goal.loop-k-preserved
loop-k-preserved c = λ i low.
    let a = c.args.a.now in
    let b = c.args.b.now in
    let same : leaf_at a c.loop-k.k ≡ leaf_at b c.loop-k.k = search rules in
    elim (cases_lt i c.loop-k.k) as (λ _. leaf_at a i ≡ leaf_at b i) [
      | inl less ↦ c.loop-k.invariant i less
      | inr from ↦ let is : c.loop-k.k ≡ i = omega (arith, low, from) in subst (λ k. leaf_at a k ≡ leaf_at b k) is same
    ]

pub returns : goal.returns
returns c =
    let a = c.args.a.now in
    let b = c.args.b.now in
    (λ _. alike a b c.loop-k.k (omega (arith, c.if-size.false, c.size.ensures.value, c.size-2.ensures.value)) (omega (arith, c.if-count-leaf_count.false, c.leaf_count-count.ensures.value, c.leaf_count.ensures.value)) (omega (arith, c.loop-k-test.false, c.leaf_count-count.ensures.value)) c.loop-k.invariant, λ _. search rules)
