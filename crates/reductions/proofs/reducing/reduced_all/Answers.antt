use Rattle.std.proofs.Common.{◌+◌, ◌≤◌, [], ◌∷◌, Ok, Err, length, refl, sym, ◌∙◌, arith, IfOk, Result}
use Rattle.reductions.proofs.Words.{IsPermutation, All-permutation, length_permutation, size, length-offsets, offsets, pair_even, firsts-reordered, result_scalar, AreReduced}
use Rattle.reductions.proofs.OrderLaws.{results-reordered}
use Rattle.reductions.proofs.reducing.reduced_all.Goals as goal
use Rattle.reductions.proofs.reducing.reduced_all.Goals.{In-Some}

same : (c : In-Some) → IsPermutation (offsets c.args.numbers.layout.now) (offsets c.in-Some.pair.target)
same c =
    let os = offsets c.args.numbers.layout.now in
    let pair = c.in-Some.pair in
    firsts-reordered os os (offsets pair.target) (offsets pair.source) refl (pair_even pair) c.in-Some.ensures.pairs

pub invariant_of-near : goal.invariant_of-near
invariant_of-near c =
    let n = c.args.numbers in
    record { inside = All-permutation (λ offset. offset + size n.scalar.now ≤ length n.bytes.now) (offsets n.layout.now) (offsets c.in-Some.pair.target) (same (goal.at.invariant_of-near c).In-Some) n.inside }

pub reduced_from-requires-clause-items : goal.reduced_from-requires-clause-items
reduced_from-requires-clause-items c =
    omega (arith, c.requires.some, length_permutation (offsets c.args.numbers.layout.now) (offsets c.in-Some.pair.target) (same (goal.at.reduced_from-requires-clause-items c).In-Some), length-offsets c.args.numbers.layout.now, length-offsets c.in-Some.pair.target)

if_ok : {A E : Type 0} (P Q : A → Type 0) → ((a : A) → P a → Q a) → (r : Result A E) → IfOk r P → IfOk r Q
if_ok P Q then (Ok a) holds = then a holds
if_ok P Q then (Err e) holds = tt

pub returns-in-Some : goal.returns-in-Some
returns-in-Some c =
    let n = c.args.numbers in
    let width = size (result_scalar c.args.reduction n.scalar.now) in
    let os = offsets n.layout.now in
    let os' = offsets c.in-Some.pair.target in
    if_ok (AreReduced c.args.reduction n.scalar.now n.bytes.now width (os' ∷ [])) (AreReduced c.args.reduction n.scalar.now n.bytes.now width (os ∷ []))
    (λ out are. results-reordered c.args.reduction n.scalar.now n.bytes.now os os' out width (sym c.depends_on_order.ensures ∙ c.if-not-depends_on_order.true) (same (goal.at.returns-in-Some c).In-Some) are)
    c.reduced_from.result c.reduced_from.ensures
