use Rattle.std.proofs.Common.{◌+◌, ◌/◌, ◌++◌, ◌∷◌, [], pos, w64, drop, get_or, length, ap, sym, ◌∙◌, append_assoc, arith, div-le_self}
use Rattle.shape_strides.proofs.Words.{IfOk-weaker, splat_is_map, to_z_pos, c_strides}
use Rattle.shape_strides.proofs.CountLaws.{bytes-more, c_strides-drop}
use Rattle.shape_strides.proofs.steps.c_order_strides.Goals as goal

pub loop-len-preserved : goal.loop-len-preserved
loop-len-preserved c =
    let lengths = c.as_slice-lengths.result.now in
    let k = c.loop-len.len-index in
    let step = c.loop-len.bytes / get_or lengths k 0 in
    let more = bytes-more lengths k c.loop-len.bytes c.args.item c.loop-len-test.true c.loop-len.invariant.some c.loop-len.invariant.is in
    let less = div-le_self c.loop-len.bytes (get_or lengths k 0) in
    let later = c_strides c.args.item (drop (k + 1) lengths) in
    let stride = to_z_pos w64 step (omega arith) ∙ ap pos more.0 in
    record {
      some = more.1;
      small = omega arith;
      is = more.0;
      rest = ap (λ s. s ++ later) (c.in_ok-push.ensures.ok ∙ ap (λ z. c.loop-len.strides ++ z ∷ []) stride) ∙ append_assoc c.loop-len.strides (_ ∷ []) later ∙ ap (λ s. c.loop-len.strides ++ s) (sym (c_strides-drop c.args.item lengths k c.loop-len-test.true)) ∙ c.loop-len.invariant.rest;
    }

pub returns-then-items-eq0-clause-none : goal.returns-then-items-eq0-clause-none
returns-then-items-eq0-clause-none c =
    IfOk-weaker c.zeros.result _ _ (λ strides are _. are ∙ splat_is_map c.args.shape.now _ (pos 0) (sym (ap length c.as_slice-lengths.ensures.value))) c.zeros.ensures
