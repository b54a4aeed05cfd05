use Rattle.std.proofs.Common.{rules, refl, sym, get_or, [], ◌∷◌, ap, ◌∙◌}
use Rattle.fancy_index.proofs.Words.{to_z-of_z, SFits, w128, IndexOutOfRange, check, is_place, place_of}
use Rattle.fancy_index.proofs.PartLaws.{adds_integer, adds_points, passed}
use Rattle.fancy_index.proofs.index_parts.push_parts.Goals as goal

pub returns-in_ok-push-in-Integer-clause-added : goal.returns-in_ok-push-in-Integer-clause-added
returns-in_ok-push-in-Integer-clause-added c =
    let at = c.in-Integer.at in
    let n = get_or c.args.axes.now 0 0 in
    let fits : SFits w128 at = search rules in
    let point = c.in_ok-point-in-Integer in
    let named = to_z-of_z w128 at fits in
    let within = passed (is_place n at) IndexOutOfRange (ap (λ z. check (is_place n z) IndexOutOfRange) (sym named) ∙ point.ensures.within) in
    let ranks = point.ensures.ranks ∙ ap (λ z. place_of n z ∷ []) named in
    rw c.in-Integer.is (adds_integer _ _ c.args.axes.now at point.point n (rw c.in-Integer.is at c.requires.axes refl) refl within point.ensures.lengths point.ensures.axes point.ensures.named ranks c.in_ok-push-in-Integer.ensures.items)

pub returns-in_ok-push-in-Array-clause-added : goal.returns-in_ok-push-in-Array-clause-added
returns-in_ok-push-in-Array-clause-added c =
    let points = c.in_ok-points-in-Array in
    rw c.in-Array.is (adds_points _ _ c.args.axes.now points.points _ _ points.ensures.part c.in_ok-push-in-Array.ensures.items)
