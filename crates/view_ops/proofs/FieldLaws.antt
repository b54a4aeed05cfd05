-- Laws of fields.
use Rattle.std.proofs.Common.{◌≡◌, ℕ, ◌+◌, ◌<◌, ◌≤◌, ℤ, pos, negsuc, ◌+ℤ◌, ◌≤ℤ◌, Option, Some, List, [], map, length, get_or, Ok, refl, sym, ap, ◌∙◌, arith}
use Rattle.view_ops.proofs.Words.{ints, length-map, get_or-map, same_lists, +ℤ_idr, Descr, Field, item_size, field_at, Layout, count, rank, IsIndex, address, offsets, Fits, distance, IsNested, index_at, length-offsets, get_or-offsets, IsIndex-first, dot-zeros, zero_filled, GivesField}
use Rattle.shape_strides.specs.Addresses.{natural}

-- The first item is at the offset, so it lies in the first `len` bytes.
pub offset-within : (l : Layout) (len item : ℕ) → Fits l len item → 0 < count l.shape → l.offset + item ≤ len
offset-within l len item fits some =
    let first = fits.within (zero_filled l.shape []) (IsIndex-first l.shape some) in
    let is : address l (zero_filled l.shape []) ≡ pos l.offset = ap (λ z. pos l.offset +ℤ z) (dot-zeros l.strides l.shape) ∙ +ℤ_idr (pos l.offset) in
    omega (arith, ints, is, first)

-- Each address of the new layout is `by` bytes further.
pub record IsMoved (old new : Layout) (by : ℕ) : Type 0 where
  pub shape : new.shape ≡ old.shape
  pub addresses : (index : List ℕ) → IsIndex old.shape index → address new index ≡ address old index +ℤ pos by

natural_further : (z : ℤ) (by : ℕ) → pos 0 ≤ℤ z → natural (z +ℤ pos by) ≡ natural z + by
natural_further (pos n) by low = refl
natural_further (negsuc n) by low = absurd (omega (arith, ints))

offset_at : (old new : Layout) (by k d : ℕ) → IsMoved old new by → k < count old.shape → get_or (offsets new) k d ≡ get_or (offsets old) k 0 + by
offset_at old new by k d moved low =
    let found = index_at old.shape k low in
    let in' : IsIndex new.shape found.0 = rw moved.shape found.1 in
    let place : rank new.shape found.0 ≡ k = ap (λ s. rank s found.0) moved.shape ∙ found.2 in
    let there : get_or (offsets new) k d ≡ natural (address new found.0) = ap (λ r. get_or (offsets new) r d) (sym place) ∙ get_or-offsets new found.0 d in' in
    let here : get_or (offsets old) k 0 ≡ natural (address old found.0) = ap (λ r. get_or (offsets old) r 0) (sym found.2) ∙ get_or-offsets old found.0 0 found.1 in
    there ∙ ap natural (moved.addresses found.0 found.1) ∙ natural_further (address old found.0) by (old.within_limit.from_zero found.0 found.1) ∙ ap (λ n. n + by) (sym here)

moved-places : (old new : Layout) (by : ℕ) → IsMoved old new by → offsets new ≡ map (λ offset. offset + by) (offsets old)
moved-places old new by moved =
    let size : length (offsets new) ≡ length (offsets old) = length-offsets new ∙ ap count moved.shape ∙ sym (length-offsets old) in
    same_lists (offsets new) (map (λ offset. offset + by) (offsets old)) (size ∙ sym (length-map (offsets old) (λ offset. offset + by))) (λ k d below.
    let low : k < count old.shape = omega (arith, size, length-offsets old) in
    let inside : k < length (offsets old) = omega (arith, size) in
    offset_at old new by k d moved low ∙ sym (get_or-map (λ offset. offset + by) (offsets old) k 0 d inside))

further_within : (z : ℤ) (len item by size : ℕ) → by + size ≤ item → (z +ℤ pos item) ≤ℤ pos len → (z +ℤ pos by +ℤ pos size) ≤ℤ pos len
further_within z len item by size few high = omega (arith, ints)

further_low : (z : ℤ) (by : ℕ) → pos 0 ≤ℤ z → pos 0 ≤ℤ (z +ℤ pos by)
further_low z by low = omega (arith, ints)

moved-fits : (old new : Layout) (by len item size : ℕ) → IsMoved old new by → by + size ≤ item → Fits old len item → Fits new len size
moved-fits old new by len item size moved few fits = record {
  from_zero = λ index in'.
      let old-in : IsIndex old.shape index = rw (← moved.shape) in' in
      rw (moved.addresses index old-in) (further_low (address old index) by (fits.from_zero index old-in));
  within = λ index in'.
      let old-in : IsIndex old.shape index = rw (← moved.shape) in' in
      rw (moved.addresses index old-in) (further_within (address old index) len item by size few (fits.within index old-in));
}

further_apart : (a b c d by item size : ℕ) → a ≡ c + by → b ≡ d + by → size ≤ item → item ≤ distance c d → size ≤ distance a b
further_apart a b c d by item size first second few far = omega arith

moved-nested : (old new : Layout) (by item size : ℕ) → IsMoved old new by → size ≤ item → IsNested (offsets old) item → IsNested (offsets new) size
moved-nested old new by item size moved few nested = record {
  apart = λ j k before inside.
      let same : length (offsets new) ≡ count old.shape = length-offsets new ∙ ap count moved.shape in
      let high : k < length (offsets old) = omega (arith, same, length-offsets old) in
      further_apart (get_or (offsets new) j 0) (get_or (offsets new) k 0) (get_or (offsets old) j 0) (get_or (offsets old) k 0) by item size (offset_at old new by j 0 moved (omega (arith, same))) (offset_at old new by k 0 moved (omega (arith, same))) few (nested.apart j k before high);
}

-- The layout of field k is the result of the definition.
pub gives_field : (old new : Layout) (descr : Descr) (there : Option ℕ) (k : ℕ) (field : Field) → there ≡ Some k → field ≡ field_at descr k → field.at + item_size field.descr ≤ item_size descr → IsMoved old new field.at → GivesField old descr there (Ok new)
gives_field old new descr there k field found is few moved = rw (found, ← is) (record {
  shape = moved.shape;
  places = moved-places old new field.at moved;
  fits = λ len old-fits. moved-fits old new field.at len (item_size descr) (item_size field.descr) moved few old-fits;
  nested = λ nested. moved-nested old new field.at (item_size descr) (item_size field.descr) moved (omega arith) nested;
})
