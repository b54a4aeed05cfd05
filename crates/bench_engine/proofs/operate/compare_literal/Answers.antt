use Rattle.std.proofs.Common.{◌≡◌, rules, refl, Bool, true, false, pos, sym, ◌∙◌, inr, subst}
use Rattle.bench_engine.proofs.Words.{to_z-of_z, SFits, bool_byte, w128, Gives, Boolean, literal_number, Integer, Bytes}
use Rattle.bench_engine.proofs.LiteralLaws.{literal-gives, compared-record, integers-are, booleans-are, bytes-are, number-items}
use Rattle.bench_engine.proofs.operate.compare_literal.Goals as goal

-- a bool as a number
as-number : (b : Bool) → pos (bool_byte b) ≡ literal_number (Boolean b)
as-number true = refl
as-number false = refl

pub returns-in_default-clause-gives : goal.returns-in_default-clause-gives
returns-in_default-clause-gives c v stands = inr (compared-record c.args.comparison v c.args.literal.now c.in_default.not-Scalar)

pub returns-in-Integer-clause-gives : goal.returns-in-Integer-clause-gives
returns-in-Integer-clause-gives c v stands =
    let e = c.compare_integer.ensures in
    let lengths = c.as_slice-lengths.ensures in
    let fits : SFits w128 c.in-Integer.value = search rules in
    rw (c.in-Scalar.is, c.in-Integer.is) (literal-gives c.args.comparison v c.args.left stands (record { axes = lengths.rank; lengths = lengths.lengths; items = lengths.items }) (Integer c.in-Integer.value) c.compare_integer.result
    (subst (Gives (λ o. (o.descr, o.layout.shape)) c.compare_integer.result) (integers-are c.in-Integer.value c.args.left.descr.now c.args.left.layout.now.shape) e.gives) e.order
    (number-items c.args.comparison c.args.left _ _ c.compare_integer.result (to_z-of_z w128 c.in-Integer.value fits) e.items))

pub returns-in-Boolean-clause-gives : goal.returns-in-Boolean-clause-gives
returns-in-Boolean-clause-gives c v stands =
    let e = c.compare_integer-in-Boolean.ensures in
    let lengths = c.as_slice-lengths.ensures in
    let fits : SFits w128 c.from.result = search rules in
    rw (c.in-Scalar.is, c.in-Boolean.is) (literal-gives c.args.comparison v c.args.left stands (record { axes = lengths.rank; lengths = lengths.lengths; items = lengths.items }) (Boolean c.in-Boolean.value) c.compare_integer-in-Boolean.result
    (subst (Gives (λ o. (o.descr, o.layout.shape)) c.compare_integer-in-Boolean.result) (booleans-are c.in-Boolean.value c.args.left.descr.now c.args.left.layout.now.shape) e.gives) e.order
    (number-items c.args.comparison c.args.left _ _ c.compare_integer-in-Boolean.result (to_z-of_z w128 c.from.result fits ∙ c.from.ensures ∙ as-number c.in-Boolean.value) e.items))

pub returns-in-Bytes-clause-gives : goal.returns-in-Bytes-clause-gives
returns-in-Bytes-clause-gives c v stands =
    let e = c.compare_bytes.ensures in
    let lengths = c.as_slice-lengths.ensures in
    rw (c.in-Scalar.is, c.in-Bytes.is, sym c.as_slice.ensures) (literal-gives c.args.comparison v c.args.left stands (record { axes = lengths.rank; lengths = lengths.lengths; items = lengths.items }) (Bytes c.as_slice.result.now) c.compare_bytes.result
    (subst (Gives (λ o. (o.descr, o.layout.shape)) c.compare_bytes.result) (bytes-are c.as_slice.result.now c.args.left.descr.now c.args.left.layout.now.shape) e.gives) e.order e.items)
