use Rattle.std.proofs.Common.{◌≡◌, ◌<◌, ◌≤◌, ℕ, List, [], ◌∷◌, length, get_or, vec_len, rules, pos, w64, sym, subst, ap, ◌∙◌, arith}
use Rattle.fancy_index.proofs.Words.{to_z_pos, get_or_default, Layout, count, max_bytes}
use Rattle.fancy_index.specs.inside.Moved.{AllStart, laid_offsets}
use Rattle.fancy_index.proofs.EvenLaws.{evened-starts, evened-offsets}
use Rattle.fancy_index.proofs.plan_rows.PlanAxes.evened.Goals as goal
use Rattle.fancy_index.proofs.plan_rows.PlanAxes.evened.Goals.{In_ok-outer}

module _ (c : In_ok-outer) where
  abbrev shifts : List ℕ
  shifts = c.args.self.now.shifts.items

  size : vec_len c.args.self.now.shifts ≡ length shifts
  size = search rules

  lengths : c.in_ok-shape.shape ≡ length shifts ∷ []
  lengths = c.in_ok-shape.ensures ∙ ap (λ n. n ∷ []) (c.len.ensures ∙ size)

  shape : c.in-Some.inner.shape ≡ length shifts ∷ []
  shape = c.in-Some.ensures.shape ∙ lengths

  some : 0 < count c.in_ok-shape.shape
  some = omega (arith, ap count lengths, c.requires.some)

  strides : c.in-Some.inner.strides ≡ pos c.args.step ∷ []
  strides = c.in-Some.ensures.strides some ∙ c.in_ok-strides.ensures ∙ ap (λ z. z ∷ []) (to_z_pos w64 c.args.step (omega arith))

  offset : c.in-Some.inner.offset ≡ c.args.self.now.inner.offset
  offset = c.in-Some.ensures.offset some

  only : c.in_ok-shifts.shifts.items ≡ get_or shifts 0 0 ∷ []
  only = c.in_ok-shifts.ensures.items_if_clones_equal (λ y is. is) ∙ ap (λ n. n ∷ []) (c.index.ensures ∙ get_or_default shifts 0 _ 0 (omega (arith, c.requires.some)))

  starts : AllStart c.in_ok-outer.outer c.in_ok-shifts.shifts.items c.in-Some.inner
  starts =
      let own = evened-starts c.args.self.now c.args.step c.requires c.in-Some.inner shape strides offset in
      subst (λ (o : Layout). AllStart o c.in_ok-shifts.shifts.items c.in-Some.inner) (sym c.in_ok-outer.ensures) (subst (λ (s : List ℕ). AllStart c.args.self.now.outer s c.in-Some.inner) (sym only) own)

  same : laid_offsets c.in_ok-outer.outer c.in_ok-shifts.shifts.items c.in-Some.inner ≡ laid_offsets c.args.self.now.outer shifts c.args.self.now.inner
  same = (λ i. laid_offsets (c.in_ok-outer.ensures i) (only i) c.in-Some.inner) ∙ evened-offsets c.args.self.now c.args.step c.requires c.in-Some.inner shape strides offset

pub invariant_of-result : goal.invariant_of-result
invariant_of-result c = record { small = subst (λ o. o ≤ max_bytes) (sym (offset c)) c.args.self.now.small; starts = starts c }

pub returns : goal.returns
returns c = same (goal.at.returns c).In_ok-outer
