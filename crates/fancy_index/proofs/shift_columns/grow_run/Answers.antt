use Rattle.std.proofs.Common.{◌≡◌, ℕ, ◌+◌, ◌-◌, ◌<◌, ◌≤◌, length, get_or, pos, sym, ap, subst, ◌∙◌, arith}
use Rattle.fancy_index.proofs.Words.{ints, length-run_offsets, moved_offset, IsMoved, number_along, CanGrowAlong}
use Rattle.fancy_index.proofs.RunLaws.{at-one-place, first-low}
use Rattle.fancy_index.proofs.shift_columns.grow_run.Goals as goal
use Rattle.fancy_index.proofs.shift_columns.grow_run.Goals.{Then-places-gt0}

-- each place is that of the first item
same : (c : Then-places-gt0) → (k : ℕ) → c.args.at ≤ k → k < c.args.at + c.args.places.count →
    get_or c.args.offsets.now c.args.places.offset 0 ≡ number_along c.args.offsets.now c.args.places c.args.at k
same c k above below =
    let still : c.args.places.step ≡ pos 0 = omega (arith, ints) in
    ap (λ p. get_or c.args.offsets.now p 0) (at-one-place c.args.places c.requires.lies (k - c.args.at) (omega arith) still)

pub offset_bounds-offsets-places : goal.offset_bounds-offsets-places
offset_bounds-offsets-places c = record { fits = omega (arith, first-low c.args.places c.requires.lies 0 c.if-places-gt0.true) }

pub bounds-offsets-places : goal.bounds-offsets-places
bounds-offsets-places c =
    let still : c.args.places.step ≡ pos 0 = omega (arith, ints) in
    subst (λ p. p < length c.args.offsets.now) (sym (at-one-place c.args.places c.requires.lies 0 c.if-places-gt0.true still)) (c.requires.places 0 0 (omega (arith, c.if-places-gt0.true, length-run_offsets c.args.places)))

pub grow_equally-requires-clause-can : goal.grow_equally-requires-clause-can
grow_equally-requires-clause-can c = λ k above below.
    subst (IsMoved c.args.start (get_or c.args.shifts.now k 0)) (sym (same (goal.at.grow_equally-requires-clause-can c).Then-places-gt0 k above below)) (c.requires.can k above below)

pub returns-in-0 : goal.returns-in-0
returns-in-0 c = record {
  len = c.grow_equally.ensures.len;
  done = λ k above below. c.grow_equally.ensures.done k above below ∙ ap (moved_offset c.args.start (get_or c.args.shifts.now k 0)) (same (goal.at.returns-in-0 c).Then-places-gt0 k above below);
  before = c.grow_equally.ensures.before;
  left = c.grow_equally.ensures.left;
}

pub grow_each-requires : goal.grow_each-requires
grow_each-requires c =
    let places = c.args.places in
    let step : places.step ≡ pos 1 = omega (arith, ints) in
    subst (λ s. CanGrowAlong c.args.at c.args.start c.args.offsets.now (record { offset = places.offset; count = places.count; step = s }) c.args.shifts.now) step c.requires
