use Rattle.std.proofs.Common.{rules, ◌≡◌, [], length, get_or, refl, sym, ap, subst, ◌∙◌, arith}
use Rattle.fancy_index.proofs.Words.{count, offsets, stretched_ranks, point_number, HaveGrown}
use Rattle.fancy_index.proofs.SizeLaws.{stretched-shape}
use Rattle.fancy_index.proofs.StartLaws.{whole-number, length-places, stretched-number, places-low}
use Rattle.fancy_index.proofs.SumLaws.{written, can-begun, grown-begun, first-grown}
use Rattle.fancy_index.proofs.shift_columns.add_points.Goals as goal
use Rattle.fancy_index.proofs.shift_columns.add_points.Goals.{In_ok-places, In_ok-begin}

pub grow-requires-clause-can : goal.grow-requires-clause-can
grow-requires-clause-can c =
    let lengths = c.args.origin.lengths.now in
    let same : c.args.own.now ≡ lengths = search rules in
    let full : length c.as_mut_slice.result.now ≡ count lengths = search rules in
    can-begun c.args.origin.start (count lengths) (point_number lengths c.args.own.now c.args.offsets.items) _ c.args.shifts.now.items c.as_mut_slice.result.now full (λ k low. ap (λ l. get_or l k c.args.origin.start) c.as_mut_slice.ensures.value) (λ k low. whole-number c.args.own.now c.args.offsets.items lengths _ k same c.as_slice.ensures.value low) c.requires.can

pub returns-then-is_empty : goal.returns-then-is_empty
returns-then-is_empty c =
    let lengths = c.args.origin.lengths.now in
    let same : c.args.own.now ≡ lengths = search rules in
    let none : c.args.shifts.now.items ≡ [] = search rules in
    first-grown c.args.origin.start (count lengths) (point_number lengths c.args.own.now c.args.offsets.items) c.args.shifts.now.items c.args.offsets.items none (c.requires.points ∙ ap count same) (λ k low. whole-number c.args.own.now c.args.offsets.items lengths _ k same refl low)

pub returns-else-is_empty : goal.returns-else-is_empty
returns-else-is_empty c =
    let lengths = c.args.origin.lengths.now in
    let same : c.args.own.now ≡ lengths = search rules in
    let full : length c.as_mut_slice.result.now ≡ count lengths = search rules in
    let have = grown-begun c.args.origin.start (count lengths) (point_number lengths c.args.own.now c.args.offsets.items) _ c.args.shifts.now.items c.as_mut_slice.result.now full (λ k low. ap (λ l. get_or l k c.args.origin.start) c.as_mut_slice.ensures.value) (λ k low. whole-number c.args.own.now c.args.offsets.items lengths _ k same c.as_slice.ensures.value low) c.grow.new.shifts c.grow.ensures in
    subst (HaveGrown c.args.origin.start (count lengths) (point_number lengths c.args.own.now c.args.offsets.items) c.args.shifts.now.items) (sym (written c.grow.new.shifts c.args.shifts.now.items _ (omega (arith, c.grow.ensures.len, c.as_mut_slice.ensures.len)))) have

pub stretched_places-requires-clause-own : goal.stretched_places-requires-clause-own
stretched_places-requires-clause-own c =
    stretched-shape c.args.own.now c.args.origin.lengths.now c.requires.fit c.requires.origin.shape c.requires.origin.some

places : (c : In_ok-places) → offsets c.in_ok-places.places ≡ stretched_ranks c.args.own.now c.args.origin.lengths.now
places c = c.in_ok-places.ensures.places

many : (c : In_ok-begin) → length c.begin.new.shifts.items ≡ count c.args.origin.lengths.now
many c = c.in_ok-begin.ensures.many ∙ c.items.ensures.value ∙ ap count c.in_ok-places.ensures.shape

pub grow_along-requires-clause-many : goal.grow_along-requires-clause-many
grow_along-requires-clause-many c =
    length-places c.args.own.now c.args.offsets.items c.args.origin.lengths.now _ (places (goal.at.grow_along-requires-clause-many c).In_ok-places) ∙ sym (ap length c.as_mut_slice-2.ensures.value ∙ many (goal.at.grow_along-requires-clause-many c).In_ok-begin)

pub grow_along-requires-clause-places : goal.grow_along-requires-clause-places
grow_along-requires-clause-places c =
    places-low c.args.own.now c.args.offsets.items c.args.origin.lengths.now _ (places (goal.at.grow_along-requires-clause-places c).In_ok-places) _ c.as_slice-2.ensures.value c.requires.points c.requires.fit

pub grow_along-requires-clause-can : goal.grow_along-requires-clause-can
grow_along-requires-clause-can c =
    let lengths = c.args.origin.lengths.now in
    let here = goal.at.grow_along-requires-clause-can c in
    let slice = c.as_mut_slice-2.ensures.value in
    let each = c.in_ok-begin.ensures.each in
    let n = c.items.ensures.value ∙ ap count c.in_ok-places.ensures.shape in
    can-begun c.args.origin.start (count lengths) (point_number lengths c.args.own.now c.args.offsets.items) _ c.args.shifts.now.items c.as_mut_slice-2.result.now (ap length slice ∙ many here.In_ok-begin) (λ k low. ap (λ l. get_or l k c.args.origin.start) slice ∙ each k (omega (arith, low, n)))
    (λ k low. stretched-number c.args.own.now c.args.offsets.items lengths _ (places here.In_ok-places) _ k c.as_slice-2.ensures.value low) c.requires.can

pub returns : goal.returns
returns c =
    let lengths = c.args.origin.lengths.now in
    let here = goal.at.returns c in
    let slice = c.as_mut_slice-2.ensures.value in
    let each = c.in_ok-begin.ensures.each in
    let n = c.items.ensures.value ∙ ap count c.in_ok-places.ensures.shape in
    let have = grown-begun c.args.origin.start (count lengths) (point_number lengths c.args.own.now c.args.offsets.items) _ c.args.shifts.now.items c.as_mut_slice-2.result.now (ap length slice ∙ many here.In_ok-begin) (λ k low. ap (λ l. get_or l k c.args.origin.start) slice ∙ each k (omega (arith, low, n)))
    (λ k low. stretched-number c.args.own.now c.args.offsets.items lengths _ (places here.In_ok-places) _ k c.as_slice-2.ensures.value low) c.grow_along.new.shifts c.grow_along.ensures in
    subst (HaveGrown c.args.origin.start (count lengths) (point_number lengths c.args.own.now c.args.offsets.items) c.args.shifts.now.items) (sym (written c.grow_along.new.shifts c.begin.new.shifts.items _ (omega (arith, c.grow_along.ensures.len, c.as_mut_slice-2.ensures.len)))) have
