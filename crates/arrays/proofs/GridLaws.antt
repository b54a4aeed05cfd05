-- Laws of rows as the rows of grids.
use Rattle.std.proofs.Common.{◌≡◌, ℕ, ◌+◌, ◌*◌, ◌<◌, ◌≤◌, List, [], ◌∷◌, ◌++◌, map, length, All, refl, sym, ap, subst, ◌∙◌, arith, zero-mul, mul_assoc, add-mul, suc-mul, append_assoc, length-append, pos, ◌+ℤ◌, ◌*ℤ◌, ◌≤ℤ◌}
use Rattle.arrays.proofs.Words.{flat_map, flat_map-append, ints, length-map, get_or-map, map-append, nat_abs, position, place, item_at, joined, grid_item, grid_items, EachWithin, GridWithin, not_negative, first_position, joined-same, StridedAxis, Run, max_bytes, run_along, run_offsets, length-run_offsets, length-first, all_offsets, All-front, All-back, place-at, joined_at, rows_of, grid_of, joined-by, joined-offsets}

-- the rows that begin at these offsets
abbrev rows_from : StridedAxis → List ℕ → List Run
rows_from along os = map (run_along along) os

-- ---- the rows that begin at the offsets of one run

module _ (len width : ℕ) (along : StridedAxis) (starts : Run) (lies : EachWithin max_bytes starts.offset starts.step 1 starts.count) (within : All (λ run. EachWithin len run.offset run.step width run.count) (rows_from along (run_offsets starts))) where
  -- the offset at which a row begins
  abbrev start : ℕ → ℕ
  start i = place starts.offset starts.step i

  row-within : (i : ℕ) → i < starts.count → EachWithin len (start i) along.stride width along.len
  row-within i lt =
      let low : i < length (run_offsets starts) = omega (arith, lt, length-run_offsets starts) in
      let here = get_or-map (run_along along) (run_offsets starts) i 0 (run_along along 0) low in
      subst (λ o. EachWithin len o along.stride width along.len) (place-at max_bytes 1 starts i lies lt)
      (subst (λ (run : Run). EachWithin len run.offset run.step width run.count) here (within i (run_along along 0) (omega (arith, low, length-map (run_offsets starts) (run_along along)))))

  -- the items of the first row
  first-row : (j : ℕ) → 0 < starts.count → j < along.len → (pos 0 ≤ℤ position starts.offset along.stride j) × ((position starts.offset along.stride j +ℤ pos width) ≤ℤ pos len)
  first-row j some lt =
      subst (λ o. (pos 0 ≤ℤ position o along.stride j) × ((position o along.stride j +ℤ pos width) ≤ℤ pos len)) (ap nat_abs (first_position starts.offset starts.step)) ((row-within 0 some).each j lt)

  -- an item is the same by its row and by its column
  same-place : (i j : ℕ) → i < starts.count → j < along.len → position (place starts.offset along.stride j) starts.step i ≡ position (start i) along.stride j
  same-place i j less lt =
      let across = not_negative (position starts.offset along.stride j) (first-row j (omega (arith, less)) lt).0 in
      let down = not_negative (position starts.offset starts.step i) (lies.each i less).0 in
      let x = pos i *ℤ starts.step in let y = pos j *ℤ along.stride in
      let here : position (place starts.offset along.stride j) starts.step i ≡ (pos starts.offset +ℤ y) +ℤ x = ap (λ z. z +ℤ x) across in
      let there : position (start i) along.stride j ≡ (pos starts.offset +ℤ x) +ℤ y = ap (λ z. z +ℤ y) down in
      here ∙ omega (arith, ints) ∙ sym there

  pub grid-within : 1 ≤ starts.count → GridWithin len (grid_of along starts) width
  grid-within some = record {
    start = λ j lt. let here = first-row j some lt in (here.0, omega (arith, ints, here.1));
    column = λ j lt. record {
      each = λ i less. subst (λ z. (pos 0 ≤ℤ z) × ((z +ℤ pos width) ≤ℤ pos len)) (sym (same-place i j less lt)) ((row-within i less).each j lt);
    };
  }

  pub grid-bytes : (block : List ℕ) → grid_items (grid_of along starts) width block ≡ joined_at (all_offsets (rows_from along (run_offsets starts))) width block
  grid-bytes block =
      let g = grid_of along starts in
      let bytes = λ (o : ℕ). joined_at (run_offsets (run_along along o)) width block in
      joined-same (λ i. joined (grid_item g width block i) along.len) (λ i. bytes (start i)) starts.count (λ i less.
      joined-same (grid_item g width block i) (λ j. item_at (place (start i) along.stride j) width block) along.len (λ j lt. ap (λ z. item_at (nat_abs z) width block) (same-place i j less lt))
      ∙ joined-offsets len width (run_along along (start i)) block (row-within i less))
      ∙ joined-by bytes max_bytes 1 starts lies
      ∙ sym (by_rows (run_offsets starts))
    where
      by_rows : (os : List ℕ) → joined_at (all_offsets (rows_from along os)) width block ≡ flat_map (λ o. joined_at (run_offsets (run_along along o)) width block) os
      by_rows [] = refl
      by_rows (o ∷ os) =
          flat_map-append (λ p. item_at p width block) (run_offsets (run_along along o)) (all_offsets (rows_from along os)) ∙ ap (λ l. joined_at (run_offsets (run_along along o)) width block ++ l) (by_rows os)

-- ---- the rows that begin at the offsets of one run, and those after them

rows-next : (along : StridedAxis) (starts : Run) (left : List Run) → rows_of along (starts ∷ left) ≡ rows_from along (run_offsets starts) ++ rows_of along left
rows-next along starts left = map-append (run_along along) (run_offsets starts) (flat_map run_offsets left)

rows-length : (along : StridedAxis) (os : List ℕ) → length (all_offsets (rows_from along os)) ≡ length os * along.len
rows-length along [] = sym (zero-mul along.len)
rows-length along (o ∷ os) = length-first (run_along along o) (rows_from along os) ∙ omega (arith, rows-length along os, suc-mul (length os) along.len)

module _ (along : StridedAxis) (starts : Run) (left left' : List Run) (walked : left ≡ starts ∷ left') where
  all-next : rows_of along left ≡ rows_from along (run_offsets starts) ++ rows_of along left'
  all-next = ap (rows_of along) walked ∙ rows-next along starts left'

  pub rows-first : (P : Run → Type 0) → All P (rows_of along left) → All P (rows_from along (run_offsets starts))
  rows-first P all = All-front P (rows_from along (run_offsets starts)) (rows_of along left') (subst (All P) all-next all)

  pub rows-rest : (P : Run → Type 0) → All P (rows_of along left) → All P (rows_of along left')
  rows-rest P all = All-back P (rows_from along (run_offsets starts)) (rows_of along left') (subst (All P) all-next all)

  pub rows-count : (width : ℕ) → length (all_offsets (rows_of along left)) * width ≡ starts.count * (along.len * width) + length (all_offsets (rows_of along left')) * width
  rows-count width =
      let here = rows_from along (run_offsets starts) in let rest = rows_of along left' in
      let many : length (all_offsets here) ≡ starts.count * along.len = rows-length along (run_offsets starts) ∙ ap (λ n. n * along.len) (length-run_offsets starts) in
      let parts : length (all_offsets here ++ all_offsets rest) ≡ starts.count * along.len + length (all_offsets rest) = length-append (all_offsets here) (all_offsets rest) ∙ ap (λ n. n + length (all_offsets rest)) many in
      ap (λ rs. length (all_offsets rs) * width) all-next ∙ ap (λ os. length os * width) (flat_map-append run_offsets here rest) ∙ ap (λ n. n * width) parts
      ∙ add-mul (starts.count * along.len) (length (all_offsets rest)) width ∙ ap (λ n. n + length (all_offsets rest) * width) (mul_assoc starts.count along.len width)

  pub rows-pushed : (width : ℕ) (block pushed before : List ℕ) → pushed ≡ before ++ joined_at (all_offsets (rows_from along (run_offsets starts))) width block
      → pushed ++ joined_at (all_offsets (rows_of along left')) width block ≡ before ++ joined_at (all_offsets (rows_of along left)) width block
  rows-pushed width block pushed before is =
      let item = λ (o : ℕ). item_at o width block in
      let here = rows_from along (run_offsets starts) in let rest = rows_of along left' in
      ap (λ l. l ++ joined_at (all_offsets rest) width block) is ∙ append_assoc before (joined_at (all_offsets here) width block) (joined_at (all_offsets rest) width block)
      ∙ ap (λ l. before ++ l) (sym (flat_map-append item (all_offsets here) (all_offsets rest)) ∙ ap (flat_map item) (sym (flat_map-append run_offsets here rest)))
      ∙ ap (λ rs. before ++ joined_at (all_offsets rs) width block) (sym all-next)
