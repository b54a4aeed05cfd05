-- Laws of the offsets of a layout.
use Rattle.std.specs.Prelude.{◌≡◌, ℕ, ◌<◌, ◌≤◌, List, length, ◌+◌, [], ℤ, pos, ◌+ℤ◌, ◌≤ℤ◌, negsuc, All}
use Rattle.std.proofs.Common.{arith, get_or, refl, sym, ◌∙◌, ap, subst}
use Rattle.shape_strides.specs.Words.{ints, nil_from_length, length-map, get_or-map, +ℤ_idr}
use Rattle.shape_strides.specs.declared.layout.Layout.{Layout}
use Rattle.shape_strides.specs.Addresses.{natural}
use Rattle.shape_strides.specs.Indexes.{count, indexes, rank, IsIndex}
use Rattle.shape_strides.specs.Layouts.{address, offsets, Fits}
use Rattle.shape_strides.specs.AxisIndexes.{zero_filled}
use Rattle.shape_strides.specs.IndexLaws.{length-indexes, rank-lt, get_or-indexes, index_at}
use Rattle.shape_strides.specs.AxisLaws.{dot-zeros, rank-zeros, IsIndex-first}

pub pos-natural : (z : ℤ) → pos 0 ≤ℤ z → pos (natural z) ≡ z
pos-natural (pos n) low = refl
pos-natural (negsuc n) low = absurd (omega (arith, ints))

pub length-offsets : (l : Layout) → length (offsets l) ≡ count l.shape
unfolding offsets
length-offsets l = length-map (indexes l.shape) (λ index. natural (address l index)) ∙ length-indexes l.shape

-- The offset at the rank of an index is the address of that index.
pub get_or-offsets : (l : Layout) (index : List ℕ) (d : ℕ) → IsIndex l.shape index → get_or (offsets l) (rank l.shape index) d ≡ natural (address l index)
unfolding offsets
get_or-offsets l index d in' =
    let inside : rank l.shape index < length (indexes l.shape) = omega (arith, length-indexes l.shape, rank-lt l.shape index in') in
    get_or-map (λ i. natural (address l i)) (indexes l.shape) (rank l.shape index) [] d inside ∙ ap (λ i. natural (address l i)) (get_or-indexes l.shape index [] in')

-- An address of an item is not below 0, so it equals the offset.
pub pos-offset : (l : Layout) (index : List ℕ) (d : ℕ) → IsIndex l.shape index → pos (get_or (offsets l) (rank l.shape index) d) ≡ address l index
pos-offset l index d in' = ap pos (get_or-offsets l index d in') ∙ pos-natural (address l index) (l.within_limit.from_zero index in')

-- If a layout fits in `len` bytes, so does an item at each of its offsets.
pub offsets_within : (l : Layout) (len item : ℕ) → Fits l len item → All (λ offset. offset + item ≤ len) (offsets l)
offsets_within l len item fits = λ k d below.
    let found = index_at l.shape k (omega (arith, length-offsets l)) in
    let here : get_or (offsets l) k d ≡ get_or (offsets l) (rank l.shape found.0) d = ap (λ r. get_or (offsets l) r d) (sym found.2) in
    let is : pos (get_or (offsets l) (rank l.shape found.0) d) ≡ address l found.0 = pos-offset l found.0 d found.1 in
    let high : (address l found.0 +ℤ pos item) ≤ℤ pos len = fits.within found.0 found.1 in
    omega (arith, ints)

-- The first offset is the offset of the layout.
pub entry-first : (l : Layout) → 0 < count l.shape → get_or (offsets l) 0 0 ≡ l.offset
entry-first l some =
    let zeros = zero_filled l.shape [] in
    ap (λ r. get_or (offsets l) r 0) (sym (rank-zeros l.shape)) ∙ get_or-offsets l zeros 0 (IsIndex-first l.shape some) ∙ ap (λ z. natural (pos l.offset +ℤ z)) (dot-zeros l.strides l.shape) ∙ ap natural (+ℤ_idr (pos l.offset))

-- A layout without items has no offsets.
pub offsets-none : (l : Layout) → count l.shape ≡ 0 → offsets l ≡ []
offsets-none l none = nil_from_length (offsets l) (length-offsets l ∙ none)

pub no_offsets : (a b : Layout) → count a.shape ≡ 0 → count b.shape ≡ 0 → offsets a ≡ offsets b
no_offsets a b none none' = offsets-none a none ∙ sym (offsets-none b none')

-- Layouts with the same offsets fit in the same number of bytes.
pub Fits-same : (old new : Layout) (len item : ℕ) → offsets new ≡ offsets old → Fits old len item → Fits new len item
Fits-same old new len item same fits =
    let size : length (offsets old) ≡ count new.shape = ap length (sym same) ∙ length-offsets new in
    let ends : (index : List ℕ) → IsIndex new.shape index → get_or (offsets new) (rank new.shape index) 0 + item ≤ len = λ index in'.
    subst (λ list. get_or list (rank new.shape index) 0 + item ≤ len) (sym same) (offsets_within old len item fits (rank new.shape index) 0 (omega (arith, rank-lt new.shape index in'))) in
    record {
      from_zero = λ index in'. subst (λ z. pos 0 ≤ℤ z) (pos-offset new index 0 in') (omega (arith, ints));
      within = λ index in'. subst (λ z. (z +ℤ pos item) ≤ℤ pos len) (pos-offset new index 0 in') (omega (arith, ints, ends index in'));
    }
