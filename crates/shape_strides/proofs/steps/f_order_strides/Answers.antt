use Rattle.std.proofs.Common.{◌+◌, ◌*◌, ◌≤◌, ◌++◌, ◌∷◌, [], pos, w64, drop, get_or, length, ap, sym, ◌∙◌, append_assoc, arith, mul-le-mul_right, one-mul}
use Rattle.shape_strides.proofs.Words.{IfOk-weaker, splat_is_map, to_z_pos, count, f_strides}
use Rattle.shape_strides.proofs.FortranLaws.{f_strides-drop, step-more, count-rest}
use Rattle.shape_strides.proofs.steps.f_order_strides.Goals as goal

pub loop-len-preserved : goal.loop-len-preserved
loop-len-preserved c =
    let lengths = c.as_slice-lengths.result.now in
    let k = c.loop-len.len-index in
    let step = c.loop-len.step in
    let below = c.loop-len-test.true in
    let later = f_strides (step * get_or lengths k 0) (drop (k + 1) lengths) in
    let one : 1 * step ≤ count (drop k lengths) * step = mul-le-mul_right step c.loop-len.invariant.some in
    let stride = to_z_pos w64 step (omega (arith, c.loop-len.invariant.small, one-mul step)) in
    record {
      some = count-rest lengths k below c.loop-len.invariant.some;
      small = omega (arith, step-more lengths k step below, c.loop-len.invariant.small);
      rest = ap (λ s. s ++ later) (c.in_ok-push.ensures.ok ∙ ap (λ z. c.loop-len.strides ++ z ∷ []) stride) ∙ append_assoc c.loop-len.strides (_ ∷ []) later ∙ ap (λ s. c.loop-len.strides ++ s) (sym (f_strides-drop step lengths k below)) ∙ c.loop-len.invariant.rest;
    }

pub returns-then-items-eq0-clause-none : goal.returns-then-items-eq0-clause-none
returns-then-items-eq0-clause-none c =
    IfOk-weaker c.zeros.result _ _ (λ strides are _. are ∙ splat_is_map c.args.shape.now _ (pos 0) (sym (ap length c.as_slice-lengths.ensures.value))) c.zeros.ensures
