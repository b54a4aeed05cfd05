use Rattle.std.proofs.Common.{◌≡◌, inl, inr, [], ◌∷◌, length, get_or, refl, sym, ap, subst, ◌∙◌, arith}
use Rattle.fancy_index.proofs.Words.{length-map, nil_from_length, IndexOutOfRange, check, count, offsets, length-offsets, Items, kind, axes_of_kind, are_places, points_of, number_from, index_array_of, IsPart, HavePlaces, are_named, ranks_of}
use Rattle.fancy_index.proofs.PointLaws.{part-of_mask, part-of_integers, places_tested, none-named}
use Rattle.fancy_index.proofs.points.array_points.Goals as goal
use Rattle.fancy_index.proofs.points.array_points.Goals.{else-n-eq0-via-then-n-eq0+else-items-gt0, else-n-eq0-via-else-n-eq0}

many : (array : Items) → length (index_array_of array).numbers ≡ count (index_array_of array).shape
many array = length-map (offsets array.layout.now) (number_from array.descr.now array.block.now) ∙ length-offsets array.layout.now

pub returns-in_ok-try_new-in-Mask-clause-part : goal.returns-in_ok-try_new-in-Mask-clause-part
returns-in_ok-try_new-in-Mask-clause-part c =
    let a = index_array_of c.args.array in
    let points = c.in_ok-try_new-in-Mask in
    let read = c.in_ok-ranks-in-Mask in
    let same = ap ranks_of points.ensures.ranks in
    part-of_mask (kind a) c.args.axes.now a.shape a.numbers points.field-0 (sym c.kind_of.ensures ∙ c.in-Mask.is) c.requires.covers (many c.args.array)
    (points.ensures.lengths ∙ ap (λ n. n ∷ []) (read.ensures.many ∙ ap length (sym same))) points.ensures.axes (ap are_named points.ensures.ranks ∙ read.ensures.named) (same ∙ read.ensures.ranks)

pub returns-in_ok-try_new-in-Integers-clause-part : goal.returns-in_ok-try_new-in-Integers-clause-part
returns-in_ok-try_new-in-Integers-clause-part c =
    let a = index_array_of c.args.array in
    let axes = c.args.axes.now in
    let points = c.in_ok-try_new-in-Integers in
    let is = sym c.kind_of.ensures ∙ c.in-Integers.is in
    let have : HavePlaces (get_or axes 0 0) a.numbers =
    elim c.else-n-eq0.branch [
      | else-n-eq0-via-then-n-eq0+else-items-gt0 w ↦ inr (nil_from_length a.numbers (omega (arith, many c.args.array, w.items.ensures.value, w.if-items-gt0.false)))
      | else-n-eq0-via-else-n-eq0 w ↦ inl (omega (arith, w.if-n-eq0.false))
    ] in
    subst (λ k. IsPart axes (are_places k axes a.numbers) points.field-0 (points_of k axes a.shape a.numbers)) (sym is)
    (part-of_integers axes a.shape a.numbers points.field-0 _ (c.requires.axes ∙ ap (λ k. axes_of_kind k a.shape) is) have (many c.args.array) refl (points.ensures.lengths ∙ c.as_slice-lengths.ensures.value) points.ensures.axes (ap are_named points.ensures.ranks) (ap ranks_of points.ensures.ranks))

pub returns-then-items-gt0-clause-err : goal.returns-then-items-gt0-clause-err
returns-then-items-gt0-clause-err c =
    let a = index_array_of c.args.array in
    let axes = c.args.axes.now in
    let is = sym c.kind_of.ensures ∙ c.in-Integers.is in
    let tested = ap (λ k. are_places k axes a.numbers) is ∙ places_tested axes a.numbers _ (c.requires.axes ∙ ap (λ k. axes_of_kind k a.shape) is) refl in
    let none = none-named (get_or axes 0 0) a.numbers (omega (arith, c.if-n-eq0.true)) (omega (arith, many c.args.array, c.items.ensures.value, c.if-items-gt0.true)) in
    inr (ap (λ t. check t IndexOutOfRange) (tested ∙ none))
