-- Laws of adjacent items.
use Rattle.std.specs.Prelude.{◌≡◌, ◌+◌, List, ◌∷◌, length, ◌*◌, ◌≤◌, pos, ◌+ℤ◌, ◌*ℤ◌, ◌++◌, map}
use Rattle.std.proofs.Common.{arith, ℕ, ap, ◌∙◌, add-mul, mul_comm}
use Rattle.arrays.specs.Words.{map-append, range_with_len, map-map, Run, length-run_offsets, length-first, all_offsets, natural, multiples, numbers_from, numbers-split}
use Rattle.arrays.specs.Packed.{packed_run, row_offsets}

pub length-row : (at width n : ℕ) → length (row_offsets at width n) ≡ n
length-row at width n = length-run_offsets (packed_run at width n)

-- there is room for the next run, and for those after it
pub room-next : (left left' : List Run) (run : Run) (at width len : ℕ) → left ≡ run ∷ left' → at + length (all_offsets left) * width ≤ len → (at + run.count * width ≤ len) × (at + run.count * width + length (all_offsets left') * width ≤ len)
room-next left left' run at width len walked room =
    let sum : length (all_offsets left) * width ≡ run.count * width + length (all_offsets left') * width = ap (λ n. n * width) (ap (λ l. length (all_offsets l)) walked ∙ length-first run left') ∙ add-mul run.count (length (all_offsets left')) width in
    (omega (arith, room, sum), omega (arith, room, sum))

-- n items, and the m items after them
pub row-split : (at width n m : ℕ) → row_offsets at width (n + m) ≡ row_offsets at width n ++ row_offsets (at + n * width) width m
row-split at width n m =
    let next : pos at +ℤ pos width *ℤ pos n ≡ pos (at + n * width) = ap (λ k. pos (at + k)) (mul_comm width n) in
    ap (map natural) (numbers-split (pos at) (pos width) n m)
    ∙ map-append natural (numbers_from (pos at) (pos width) n) (numbers_from (pos at +ℤ pos width *ℤ pos n) (pos width) m)
    ∙ ap (λ z. row_offsets at width n ++ map natural (numbers_from z (pos width) m)) next

-- starting at 0, the offsets are the multiples of `width`
pub row-multiples : (width n : ℕ) → row_offsets 0 width n ≡ multiples width n
row-multiples width n =
    map-map natural (λ k. pos 0 +ℤ pos width *ℤ pos k) (range_with_len 0 n) ∙ (λ i. map (λ k. same k i) (range_with_len 0 n))
  where
    same : (k : ℕ) → natural (pos 0 +ℤ pos width *ℤ pos k) ≡ width * k
    same k = omega arith
