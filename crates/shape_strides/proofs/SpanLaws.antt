-- Laws of the range of bytes in which the items of a layout lie.
use Rattle.std.proofs.Common.{◌≡◌, ℕ, ◌+◌, ◌<◌, ◌≤◌, ℤ, pos, ◌+ℤ◌, ◌≤ℤ◌, List, length, get_or, All, Contains, sym, ap, ◌∙◌, arith}
use Rattle.shape_strides.proofs.Words.{ints, Layout, count, rank, IsIndex, max_bytes, dot, offsets, Fits, reach_above, reach_below, rank-lt, index_at, length-offsets, pos-offset}
use Rattle.shape_strides.proofs.ReachLaws.{dot_high, dot_low, top_of, bottom_of, reach_from_LieWithin}

-- the arithmetic behind it
sum_low : (start below off o : ℕ) (d : ℤ) → start + below ≡ off → pos o ≡ pos off +ℤ d → pos 0 ≤ℤ (pos below +ℤ d) → start ≤ o
sum_low start below off o d is here low = omega (arith, ints)

sum_high : (above off o : ℕ) (d : ℤ) → pos o ≡ pos off +ℤ d → d ≤ℤ pos above → o ≤ off + above
sum_high above off o d here high = omega (arith, ints)

sum_first : (start below off o : ℕ) (d : ℤ) → start + below ≡ off → pos o ≡ pos off +ℤ d → pos below +ℤ d ≡ pos 0 → o ≡ start
sum_first start below off o d is here low = omega (arith, ints)

sum_last : (above off o : ℕ) (d : ℤ) → pos o ≡ pos off +ℤ d → d ≡ pos above → o ≡ off + above
sum_last above off o d here high = omega (arith, ints)

-- Each offset is the address of an index.
pub entry_at : (l : Layout) (k d : ℕ) → k < length (offsets l) → (index : List ℕ) × IsIndex l.shape index × (pos (get_or (offsets l) k d) ≡ pos l.offset +ℤ dot l.strides index)
entry_at l k d below =
    let found = index_at l.shape k (omega (arith, length-offsets l)) in
    (found.0, found.1, ap (λ r. pos (get_or (offsets l) r d)) (sym found.2) ∙ pos-offset l found.0 d found.1)

module _ (l : Layout) (some : 0 < count l.shape) where
  pub below_offset : reach_below l.strides l.shape ≤ l.offset
  below_offset = (reach_from_LieWithin l.shape l.strides l.offset max_bytes 1 l.one_stride_an_axis some l.within_limit).0

  pub end_within : (len item : ℕ) → Fits l len item → l.offset + reach_above l.strides l.shape + item ≤ len
  end_within len item fits = (reach_from_LieWithin l.shape l.strides l.offset len item l.one_stride_an_axis some fits).1

  pub none_lower : (start : ℕ) → start + reach_below l.strides l.shape ≡ l.offset → All (λ o. start ≤ o) (offsets l)
  none_lower start is = λ k d below.
      let entry = entry_at l k d below in
      sum_low start (reach_below l.strides l.shape) l.offset (get_or (offsets l) k d) (dot l.strides entry.0) is entry.2 (dot_low l.strides l.shape entry.0 entry.1)

  pub none_higher : All (λ o. o ≤ l.offset + reach_above l.strides l.shape) (offsets l)
  none_higher = λ k d below.
      let entry = entry_at l k d below in
      sum_high (reach_above l.strides l.shape) l.offset (get_or (offsets l) k d) (dot l.strides entry.0) entry.2 (dot_high l.strides l.shape entry.0 entry.1)

  pub lowest_among : (start : ℕ) → start + reach_below l.strides l.shape ≡ l.offset → Contains (offsets l) start
  lowest_among start is =
      let bottom = bottom_of l.strides l.shape l.one_stride_an_axis some in (
        rank l.shape bottom.0,
        omega (arith, length-offsets l, rank-lt l.shape bottom.0 bottom.1),
        sum_first start (reach_below l.strides l.shape) l.offset _ (dot l.strides bottom.0) is (pos-offset l bottom.0 start bottom.1) bottom.2,
      )

  pub highest_among : Contains (offsets l) (l.offset + reach_above l.strides l.shape)
  highest_among =
      let top = top_of l.strides l.shape l.one_stride_an_axis some in (
        rank l.shape top.0,
        omega (arith, length-offsets l, rank-lt l.shape top.0 top.1),
        sum_last (reach_above l.strides l.shape) l.offset _ (dot l.strides top.0) (pos-offset l top.0 (l.offset + reach_above l.strides l.shape) top.1) top.2,
      )
