use Rattle.std.proofs.Common.{◌≡◌, ◌<◌, ◌++◌, ℕ, List, length, take, drop, get_or, sym, ap, subst, ◌∙◌, arith}
use Rattle.fancy_index.proofs.Words.{length-map, count, rank, offsets, broadcast_index, IndexPart, IsMoved, tuple, IsReady, point_number, part_offset, BeginsAt}
use Rattle.fancy_index.proofs.StartLaws.{led-number}
use Rattle.fancy_index.proofs.SumLaws.{written, regrown}
use Rattle.fancy_index.proofs.shift_columns.add_part.Goals as goal
use Rattle.fancy_index.proofs.shift_columns.add_part.Goals.{After-to_offsets}

abbrev written-offsets : After-to_offsets → List ℕ
written-offsets c = take c.in_ok-offsets-in-Points.offsets.len (c.to_offsets.new.ranks ++ drop (length c.to_offsets.new.ranks) c.in_ok-offsets-in-Points.offsets.items)

led-is : (c : After-to_offsets) (own : List ℕ) → own ≡ c.in-Points.points.lengths.items → (k : ℕ) → k < count c.args.origin.lengths.now →
    point_number c.args.origin.lengths.now own (written-offsets c) k ≡ part_offset c.args.origin.layout.now c.args.axis c.args.origin.start c.args.origin.lengths.now c.args.part.now k
led-is c own is k low =
    let origin = c.args.origin in
    let p = c.in-Points.points in
    let read = c.in_ok-offsets-in-Points in
    let made = c.in_ok-along-in-Points.ensures in
    let size = ap length c.to_offsets.ensures ∙ length-map c.as_mut_slice.result.now (λ rank. get_or (offsets c.in_ok-along-in-Points.along) rank 0) in
    ap (λ (s : List ℕ). point_number origin.lengths.now s (written-offsets c) k) is
    ∙ ap (λ (l : List ℕ). get_or l (rank p.lengths.items (broadcast_index p.lengths.items (tuple origin.lengths.now k))) 0) (written c.to_offsets.new.ranks read.offsets.items read.offsets.len (omega (arith, size, c.as_mut_slice.ensures.len)))
    ∙ led-number origin.layout.now c.args.axis origin.start origin.lengths.now p c.in_ok-along-in-Points.along _ _ _ (subst (BeginsAt origin.layout.now c.args.axis origin.start) c.in-Points.is c.requires.begins) (subst (IsReady origin.lengths.now) c.in-Points.is c.requires.ready)
    c.as_slice-axes.ensures (c.as_mut_slice.ensures.value ∙ read.ensures.ranks) made.shape made.strides made.offset c.to_offsets.ensures k low
    ∙ ap (λ (part : IndexPart). part_offset origin.layout.now c.args.axis origin.start origin.lengths.now part k) (sym c.in-Points.is)

pub add_points-requires-clause-can : goal.add_points-requires-clause-can
add_points-requires-clause-can c = λ k low.
    subst (IsMoved c.args.origin.start (get_or c.args.shifts.now.items k c.args.origin.start)) (sym (led-is (goal.at.add_points-requires-clause-can c).After-to_offsets _ c.as_slice.ensures k low)) (c.requires.can k low)

pub returns-in_ok-add_points-in-Points-clause-ok : goal.returns-in_ok-add_points-in-Points-clause-ok
returns-in_ok-add_points-in-Points-clause-ok c =
    regrown c.args.origin.start (count c.args.origin.lengths.now) _ _ c.args.shifts.now.items c.add_points.new.shifts.items (led-is (goal.at.returns-in_ok-add_points-in-Points-clause-ok c).After-to_offsets _ c.as_slice.ensures) c.in_ok-add_points-in-Points.ensures
