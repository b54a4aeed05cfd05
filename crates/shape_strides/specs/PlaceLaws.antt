-- What the offsets of a layout's items imply about the layout.
use Rattle.std.specs.Prelude.{◌+◌, ◌<◌, ◌≤◌, ℕ, pos, ◌+ℤ◌, ◌≤ℤ◌, All}
use Rattle.std.proofs.Common.{get_or, subst, arith}
use Rattle.shape_strides.specs.Words.{ints}
use Rattle.shape_strides.specs.declared.layout.Layout.{Layout}
use Rattle.shape_strides.specs.Indexes.{count, rank}
use Rattle.shape_strides.specs.IndexLaws.{rank-lt}
use Rattle.shape_strides.specs.LayoutLaws.{length-offsets, offsets_within, entry-first, pos-offset}
use Rattle.shape_strides.specs.Layouts.{offsets, Fits}
use Rattle.shape_strides.specs.Limits.{max_bytes}

-- The offset of a layout with items is below the limit of a buffer.
pub offset_low : (l : Layout) → 0 < count l.shape → l.offset < max_bytes
offset_low l some = omega (arith, entry-first l some, offsets_within l max_bytes 1 l.within_limit 0 0 (omega (arith, length-offsets l)))

-- A layout fits if an item at each of its offsets does.
pub fits-offsets : (l : Layout) (len item : ℕ) → All (λ offset. offset + item ≤ len) (offsets l) → Fits l len item
fits-offsets l len item inside = record {
  from_zero = l.within_limit.from_zero;
  within = λ index in'.
      let ends : get_or (offsets l) (rank l.shape index) 0 + item ≤ len = inside (rank l.shape index) 0 (omega (arith, rank-lt l.shape index in', length-offsets l)) in
      subst (λ z. (z +ℤ pos item) ≤ℤ pos len) (pos-offset l index 0 in') (omega (arith, ints, ends));
}
