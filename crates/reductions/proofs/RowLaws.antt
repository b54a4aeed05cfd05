-- Items at steps along two axes.
use Rattle.std.proofs.Common.{◌≡◌, ◌<◌, ◌≤◌, ℕ, ℤ, pos, length, sym, ap, subst, ◌∙◌, arith, ◌+ℤ◌, ◌*ℤ◌, ◌≤ℤ◌, nat_abs}
use Rattle.reductions.proofs.Words.{ints, position, place, EachWithin, not_negative, Run, Scalar, size, Side, number_of_side, Lines, IsRow, line_run, number_at}
use Rattle.reductions.proofs.LineLaws.{at_first, side_number}

pub swapped : (x y z : ℤ) → (x +ℤ y) +ℤ z ≡ (x +ℤ z) +ℤ y
swapped x y z = omega (arith, ints)

-- the two steps can be taken in either order
cross : (o : ℕ) (s t : ℤ) (j k : ℕ) → pos 0 ≤ℤ position o t k → pos 0 ≤ℤ position o s j → position (place o t k) s j ≡ position (place o s j) t k
cross o s t j k low low' =
    ap (λ z. z +ℤ pos j *ℤ s) (not_negative (position o t k) low)
    ∙ swapped (pos o) (pos k *ℤ t) (pos j *ℤ s)
    ∙ ap (λ z. z +ℤ pos k *ℤ t) (sym (not_negative (position o s j) low'))

-- the offset at which the `k`-th row begins
pub row_offset : (l : Lines) (k : ℕ) (run : Run) → run ≡ line_run l 0 → place run.offset run.step k ≡ place l.starts.run.offset l.axis.stride k
row_offset l k run is = ap (λ r. place r.offset r.step k) is ∙ ap (λ o. place o l.axis.stride k) (at_first l.starts.run.offset l.starts.run.step)

module _ (l : Lines) (some : 1 ≤ l.starts.run.count) where
  -- the first line
  pub first_line : EachWithin (length l.starts.bytes.now) l.starts.run.offset l.axis.stride l.starts.width l.axis.len
  first_line = subst (λ o. EachWithin (length l.starts.bytes.now) o l.axis.stride l.starts.width l.axis.len) (at_first l.starts.run.offset l.starts.run.step) (l.within 0 some)

  pub row_place : (j k : ℕ) → j < l.starts.run.count → k < l.axis.len → place (place l.starts.run.offset l.axis.stride k) l.starts.run.step j ≡ place (place l.starts.run.offset l.starts.run.step j) l.axis.stride k
  row_place j k low low' = ap nat_abs (cross l.starts.run.offset l.starts.run.step l.axis.stride j k (first_line.each k low').0 (l.starts.within.each j low).0)

  pub row_within : (k : ℕ) → k < l.axis.len → EachWithin (length l.starts.bytes.now) (place l.starts.run.offset l.axis.stride k) l.starts.run.step l.starts.width l.starts.run.count
  row_within k low' = record {
    each = λ j low.
        let is = cross l.starts.run.offset l.starts.run.step l.axis.stride j k (first_line.each k low').0 (l.starts.within.each j low).0 in
        let here = (l.within j low).each k low' in
        (subst (λ z. pos 0 ≤ℤ z) (sym is) here.0, subst (λ z. (z +ℤ pos l.starts.width) ≤ℤ pos (length l.starts.bytes.now)) (sym is) here.1);
  }

  -- the `k`-th number of the `j`-th line
  pub row_number : (scalar : Scalar) (k j : ℕ) (s : Side) → l.starts.width ≡ size scalar → j < l.starts.run.count → k < l.axis.len → IsRow l k s →
      number_of_side scalar s j ≡ number_at scalar l.starts.bytes.now (place (place l.starts.run.offset l.starts.run.step j) l.axis.stride k)
  row_number scalar k j s wide low low' is =
      side_number scalar s j (is.1 ∙ wide)
      ∙ (λ i. number_at scalar (is.0 i) (place (is.2 i).offset (is.2 i).step j))
      ∙ ap (number_at scalar l.starts.bytes.now) (row_place j k low low')
