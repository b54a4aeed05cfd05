use Rattle.std.proofs.Common.{◌≡◌, pos, map, length, reverse, sym, ap, ◌∙◌}
use Rattle.shape_strides.proofs.Words.{count}
use Rattle.shape_strides.proofs.FortranLaws.{reversed, offsets-reversed}
use Rattle.shape_strides.proofs.layout.Layout.reversed.Goals as goal
use Rattle.shape_strides.proofs.layout.Layout.reversed.Goals.{After-reverse-2}

shape_is : (c : After-reverse-2) → c.reverse.new.self ≡ reverse c.args.layout.now.shape
shape_is c = c.reverse.ensures ∙ ap (λ l. reverse l.shape) c.in_ok-reversed.ensures

strides_are : (c : After-reverse-2) → c.reverse-2.new.self ≡ reverse c.args.layout.now.strides
strides_are c = c.reverse-2.ensures ∙ ap (λ l. reverse l.strides) c.in_ok-reversed.ensures

pub invariant_of-reversed : goal.invariant_of-reversed
invariant_of-reversed c =
    let turned = reversed c.args.layout.now in
    let shape = shape_is (goal.at.invariant_of-reversed c).After-reverse-2 in
    let strides = strides_are (goal.at.invariant_of-reversed c).After-reverse-2 in
    let offset = ap (λ l. l.offset) c.in_ok-reversed.ensures in
    record {
      one_stride_an_axis = ap length strides ∙ turned.one_stride_an_axis ∙ sym (ap length shape);
      within_limit = rw (shape, strides, offset) turned.within_limit;
      zero_if_empty = λ none. let zero = turned.zero_if_empty (sym (ap count shape) ∙ none) in (offset ∙ zero.0, strides ∙ zero.1 ∙ sym (ap (map (λ _. pos 0)) shape));
    }

pub returns-clause-offsets : goal.returns-clause-offsets
returns-clause-offsets c =
    let at = (goal.at.returns-clause-offsets c).After-reverse-2 in
    offsets-reversed c.args.layout.now _ (shape_is at) (strides_are at) (ap (λ l. l.offset) c.in_ok-reversed.ensures)
