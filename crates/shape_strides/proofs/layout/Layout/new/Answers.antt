use Rattle.std.proofs.Common.{◌≡◌, pos, length, refl, ap, ◌∙◌, arith}
use Rattle.shape_strides.proofs.Words.{length-map, max_bytes, count}
use Rattle.shape_strides.proofs.ReachLaws.{LieWithin-empty}
use Rattle.shape_strides.proofs.ZeroLaws.{zeros_for}
use Rattle.shape_strides.proofs.layout.Layout.new.Goals as goal

pub invariant_of-result-2 : goal.invariant_of-result-2
invariant_of-result-2 c =
    let none : count c.args.shape ≡ 0 = omega (arith, c.items.ensures.value) in
    let zeros = c.zeroed.ensures ∙ zeros_for c.args.strides c.args.shape c.requires in
    record {
      one_stride_an_axis = ap length zeros ∙ length-map c.args.shape (λ _. pos 0);
      within_limit = LieWithin-empty c.args.shape c.zeroed.result 0 max_bytes 1 none;
      zero_if_empty = λ _. (refl, zeros);
    }
