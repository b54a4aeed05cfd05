use Rattle.std.proofs.Common.{reverse, length, sym, ap, subst, ◌∙◌}
use Rattle.shape_strides.proofs.Words.{length-reverse, count, IsShape, count-reverse}
use Rattle.shape_strides.proofs.ZeroLaws.{refilled}
use Rattle.shape_strides.proofs.FortranLaws.{IsShape-reverse}
use Rattle.shape_strides.proofs.shape.Shape.reverse.Goals as goal

pub invariant_of-self : goal.invariant_of-self
invariant_of-self c =
    let axes = c.self.inside.axes.items in
    let is = refilled _ axes c.reverse.new.self (ap length c.reverse.ensures.after ∙ ap (λ l. length (reverse l)) c.as_mut_slice.ensures.value ∙ length-reverse axes) ∙ c.reverse.ensures.after ∙ ap reverse c.as_mut_slice.ensures.value in
    (subst IsShape (sym is) (IsShape-reverse axes c.self.invariant.0), c.self.invariant.1 ∙ sym (count-reverse axes) ∙ ap count (sym is))
