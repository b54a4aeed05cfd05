-- Shifts that rise evenly lead to the items of an axis with their step.
use Rattle.std.proofs.Common.{◌≡◌, ℕ, ◌+◌, ◌*◌, ◌<◌, ◌≤◌, List, [], ◌∷◌, map, length, get_or, All, sym, ap, subst, ◌∙◌, arith, append-nil, mul_comm, pos}
use Rattle.fancy_index.proofs.Words.{length-map, get_or-map, get_or_default, same_number_lists, All-cons, All-nil, Layout, natural, address_at, count, rank, IsIndex, offsets, length-offsets, get_or-offsets, entry-first, moved_offset, shifted_all, moved_all, IsMoved, IsStart, AreStarts, offsets_from}
use Rattle.fancy_index.specs.declared.plan_rows.PlanAxes.{PlanAxes}
use Rattle.fancy_index.specs.inside.Kept.{AreEven}
use Rattle.fancy_index.specs.inside.Moved.{AllStart, laid_offsets}
use Rattle.fancy_index.proofs.IndexSplits.{flat_map_all}
use Rattle.fancy_index.proofs.SingleLaws.{shifted-single}

-- moved by the first shift, the offset that is `far` bytes on is the offset that is moved by a shift as far on
moved-along : (base place first far : ℕ) → base ≤ place + first → moved_offset base (moved_offset base place first) (base + far) ≡ moved_offset base place (first + far)
moved-along base place first far low = omega arith

can-move-along : (base place first far shift item : ℕ) → base ≤ place + first → shift ≡ first + far → item ≡ base → IsMoved base (moved_offset base place shift) item → IsMoved base (moved_offset base place first) (base + far)
can-move-along base place first far shift item low on one moves = record { from = omega arith; below = omega (arith, moves.below) }

module _ (axes : PlanAxes) (step : ℕ) (even : AreEven axes step) (inner : Layout) (shape : inner.shape ≡ length axes.shifts.items ∷ []) (strides : inner.strides ≡ pos step ∷ []) (offset : inner.offset ≡ axes.inner.offset) where
  abbrev base : ℕ
  base = axes.inner.offset

  abbrev shifts : List ℕ
  shifts = axes.shifts.items

  abbrev first : ℕ
  first = get_or shifts 0 0

  many : length (offsets inner) ≡ length shifts
  many = omega (arith, length-offsets inner, ap count shape)

  nth : (k : ℕ) → k < length shifts → get_or (offsets inner) k 0 ≡ base + k * step
  nth k low =
      let in' : IsIndex inner.shape (k ∷ []) = subst (λ (s : List ℕ). IsIndex s (k ∷ [])) (sym shape) (low, tt) in
      let is : k ≡ rank inner.shape (k ∷ []) = omega (arith, ap (λ s. rank s (k ∷ [])) shape) in
      let sum : natural (address_at (pos step ∷ []) base (k ∷ [])) ≡ base + k * step = omega (arith, mul_comm step k) in
      ap (λ r. get_or (offsets inner) r 0) is ∙ get_or-offsets inner (k ∷ []) 0 in' ∙ (λ i. natural (address_at (strides i) (offset i) (k ∷ []))) ∙ sum

  from-base : (place : ℕ) → AreStarts base (offsets axes.inner) shifts place → base ≤ place + first
  from-base place starts = (starts 0 0 (omega (arith, even.some))).start.from

  start-at : (place : ℕ) → AreStarts base (offsets axes.inner) shifts place → IsStart base (offsets inner) place first
  start-at place starts = record {
    start = (starts 0 0 (omega (arith, even.some))).start;
    items = λ k d inside.
        let low : k < length shifts = omega (arith, many, inside) in
        let some : 0 < count axes.inner.shape = omega (arith, even.single) in
        let item = (starts k 0 low).items 0 0 (omega (arith, length-offsets axes.inner, some)) in
        let is = get_or_default (offsets inner) k d 0 inside ∙ nth k low in
        subst (IsMoved base (moved_offset base place first)) (sym is) (can-move-along base place first (k * step) _ _ (from-base place starts) (even.even k low) (entry-first axes.inner some) item);
  }

  pub evened-starts : AllStart axes.outer (first ∷ []) inner
  evened-starts =
      subst (λ b. All (AreStarts b (offsets inner) (first ∷ [])) (offsets axes.outer)) (sym offset) (λ j d low.
      let place = get_or (offsets axes.outer) j d in
      All-cons (IsStart base (offsets inner) place) first [] (start-at place (axes.starts j d low)) (All-nil (IsStart base (offsets inner) place)))

  same-at : (place : ℕ) → AreStarts base (offsets axes.inner) shifts place → shifted_all base (first ∷ []) (offsets inner) place ≡ shifted_all base shifts (offsets axes.inner) place
  same-at place starts =
      let start = moved_offset base place first in
      let row = map (moved_offset base start) (offsets inner) in
      append-nil row
      ∙ same_number_lists row (map (moved_offset base place) shifts) (length-map (offsets inner) (moved_offset base start) ∙ many ∙ sym (length-map shifts (moved_offset base place))) (λ k inside.
      let here : k < length (offsets inner) = omega (arith, inside, length-map (offsets inner) (moved_offset base start)) in
      let low : k < length shifts = omega (arith, here, many) in
      get_or-map (moved_offset base start) (offsets inner) k 0 0 here
      ∙ ap (moved_offset base start) (nth k low)
      ∙ moved-along base place first (k * step) (from-base place starts)
      ∙ ap (moved_offset base place) (sym (even.even k low))
      ∙ sym (get_or-map (moved_offset base place) shifts k 0 0 low))
      ∙ sym (shifted-single axes.inner shifts place even.single)

  pub evened-offsets : laid_offsets axes.outer (first ∷ []) inner ≡ offsets_from axes
  evened-offsets =
      (λ i. moved_all (offset i) (offsets axes.outer) (first ∷ []) (offsets inner))
      ∙ flat_map_all (shifted_all base (first ∷ []) (offsets inner)) (shifted_all base shifts (offsets axes.inner)) (offsets axes.outer) (λ j d low. same-at (get_or (offsets axes.outer) j d) (axes.starts j d low))
