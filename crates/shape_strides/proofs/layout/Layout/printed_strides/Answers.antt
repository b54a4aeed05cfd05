use Rattle.std.proofs.Common.{◌≡◌, ◌++◌, ◌∷◌, [], ◌<◌, length, w64, to_z, pos, take, get_or, ap, sym, ◌∙◌, arith, rules, take_all}
use Rattle.shape_strides.proofs.Words.{take_more, offsets, printed_strides, length-printed}
use Rattle.shape_strides.proofs.ContiguityLaws.{printed-entry}
use Rattle.shape_strides.proofs.layout.Layout.printed_strides.Goals as goal
use Rattle.shape_strides.proofs.layout.Layout.printed_strides.Goals.{then-len-lt2, else-len-lt2}

pub loop-axis-preserved : goal.loop-axis-preserved
loop-axis-preserved c =
    let l = c.args.layout.now in
    let all = printed_strides l.shape (offsets l) in
    let k = c.loop-axis.axis in
    let below : k < length l.shape = omega (arith, ap length c.as_slice-len-items.ensures.value) in
    let len = ap (λ s. get_or s k 0) c.as_slice-len-items.ensures.value in
    let entry : to_z w64 c.if-len-lt2.push-bits ≡ get_or all k (pos 0) = elim c.if-len-lt2.branch [
      | then-len-lt2 w ↦ printed-entry l k _ below (λ _. w.push-is) (λ long. absurd (omega (arith, w.if-len-lt2.true)))
      | else-len-lt2 w ↦
          let is : to_z w64 c.if-len-lt2.push-bits ≡ get_or c.as_slice-strides.result.now k (pos 0) = search rules in
          printed-entry l k _ below (λ short. absurd (omega (arith, w.if-len-lt2.false))) (λ _. is ∙ ap (λ s. get_or s k (pos 0)) c.as_slice-strides.ensures)
    ] in
    c.in_ok-push.ensures.ok ∙ ap (λ s. s ++ to_z w64 c.if-len-lt2.push-bits ∷ []) c.loop-axis.invariant ∙ ap (λ z. take k all ++ z ∷ []) entry ∙ sym (take_more all k (pos 0) (omega (arith, length-printed l.shape (offsets l))))

pub returns : goal.returns
returns c =
    let l = c.args.layout.now in
    c.loop-axis.invariant ∙ take_all c.loop-axis.axis (printed_strides l.shape (offsets l)) (omega (arith, length-printed l.shape (offsets l), ap length c.as_slice-len-items.ensures.value))
