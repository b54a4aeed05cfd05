-- One leaf of the items of a run, which is read, cast and written to its place.
use Rattle.std.proofs.Common.{◌≡◌, ◌+◌, ◌*◌, ◌-◌, ◌<◌, ◌≤◌, min, ℕ, ℤ, zero, suc, pos, inr, List, [], ◌∷◌, ◌++◌, map, length, drop, take, replicate, refl, sym, ap, subst, ◌∙◌, arith, ◌+ℤ◌, ◌*ℤ◌, ◌≤ℤ◌, append_assoc, length-append, mul-le-mul_right, suc-mul}
use Rattle.elementwise.proofs.Words.{ints, *ℤ_comm, map-map, length-map, map-append, take-take, take-append-drop, drop-drop, length-replicate, length-put, length-item_at, item_at-put_apart, place_within, Bytes, Descr, Leaf, size, item_size, item_from, decode_item, items_at, put, item_at, position, place, EachWithin, not_negative, position-add, numbers_from, numbers-split, natural, with_items, Run, run_offsets, row_offsets, length-row, length-run_offsets, run_offsets-more, with_leaves, leaf_cast, leaf_from, run_part, cast_items, cast_item}
use Rattle.elementwise.proofs.LeafLaws.{length-leaf_cast}
use Rattle.elementwise.proofs.NulLaws.{text_pushed}
use Rattle.elementwise.proofs.RowLaws.{row-within}

-- ---- a run that begins later

module _ (at offset : ℕ) (step : ℤ) where
  later : (k : ℕ) → position (offset + at) step k ≡ position offset step k +ℤ pos at
  later k = omega (arith, ints)

  place-later : (k : ℕ) → pos 0 ≤ℤ position offset step k → place (offset + at) step k ≡ place offset step k + at
  place-later k low = omega (arith, ints, later k, low, not_negative (position offset step k) low, not_negative (position (offset + at) step k) (omega (arith, ints, later k, low)))

  -- leaves lie within the bytes, if the items do
  pub leaves-within : (len width item n : ℕ) → at + width ≤ item → EachWithin len offset step item n → EachWithin len (offset + at) step width n
  leaves-within len width item n fits within = record { each = λ k low. let lies = within.each k low in (omega (arith, ints, later k, lies.0), omega (arith, ints, later k, lies.1, fits)) }

-- one more item
with_items-more : (ats : List ℕ) (items : List (List ℕ)) (at : ℕ) (item rows : List ℕ) → length ats ≡ length items → with_items (ats ++ at ∷ []) (items ++ item ∷ []) rows ≡ put at item (with_items ats items rows)
with_items-more [] [] at item rows even = refl
with_items-more [] (other ∷ items) at item rows even = absurd (omega (arith, even))
with_items-more (first ∷ ats) [] at item rows even = absurd (omega (arith, even))
with_items-more (first ∷ ats) (other ∷ items) at item rows even = with_items-more ats items at item (put first other rows) (omega (arith, even))

module _ (make : ℕ → List ℕ) (run : Run) (len width at row : ℕ) (within : EachWithin len run.offset run.step width run.count) (rows : List ℕ) where
  abbrev first : ℕ → Run
  first n = record { offset = run.offset; count = n; step = run.step }

  -- leaves that are written, as items that are written
  leaves-put : (n : ℕ) → n ≤ run.count → with_leaves (λ k. make (place run.offset run.step k)) at row n rows ≡ with_items (row_offsets at row n) (map make (run_offsets (first n))) rows
  leaves-put zero few = refl
  leaves-put (suc n) few =
      let ats = row_offsets at row n in
      let os = run_offsets (first n) in
      let o = place run.offset run.step n in
      let here = run_offsets-more _ at (pos row) 0 n (row-within (at + suc n * row) at row 0 (suc n) (omega arith) (omega arith)) in
      let there = run_offsets-more len run.offset run.step width n (record { each = λ k low. within.each k (omega (arith, low, few)) }) in
      ap (put (at + n * row) (make o)) (leaves-put n (omega (arith, few)))
      ∙ sym (with_items-more ats (map make os) (at + n * row) (make o) rows (length-row at row n ∙ sym (length-map os make ∙ length-run_offsets (first n))))
      ∙ (λ i. with_items (sym here i) ((sym (map-append make os (o ∷ [])) ∙ ap (map make) (sym there)) i) rows)

-- equal leaves
with_leaves-same : (f g : ℕ → List ℕ) (at row n : ℕ) (rows : List ℕ) → ((k : ℕ) → k < n → f k ≡ g k) → with_leaves f at row n rows ≡ with_leaves g at row n rows
with_leaves-same f g at row zero rows same = refl
with_leaves-same f g at row (suc n) rows same = let rest = with_leaves-same f g at row n rows (λ k low. same k (omega (arith, low))) in λ i. put (at + n * row) (same n (omega arith) i) (rest i)

-- the leaves are written to their places, in the form that the code uses
pub leaf-put : (run : Run) (source source' leaf leaf' : Leaf) (len wide row item : ℕ) (step : ℤ) (other rows rows' : List ℕ) → EachWithin len run.offset run.step wide run.count → step ≡ run.step → source' ≡ source → leaf' ≡ leaf → row ≡ item →
    rows' ≡ with_leaves (λ k. leaf_cast source'.scalar leaf'.scalar (item_at (place (run.offset + source'.at) step k) (size source'.scalar) other)) leaf'.at row run.count rows →
    rows' ≡ with_items (row_offsets leaf.at item (length (run_offsets run))) (map (leaf_from source leaf.scalar other) (run_offsets run)) rows
leaf-put run source source' leaf leaf' len wide row item step other rows rows' within steps first same long wrote =
    let make = leaf_from source' leaf'.scalar other in
    wrote
    ∙ with_leaves-same _ (λ k. make (place run.offset run.step k)) leaf'.at row run.count rows (λ k low.
    ap (λ o. leaf_cast source'.scalar leaf'.scalar (item_at o (size source'.scalar) other)) ((λ i. place (run.offset + source'.at) (steps i) k) ∙ place-later source'.at run.offset run.step k (within.each k low).0))
    ∙ leaves-put make run len wide leaf'.at row within rows run.count (omega arith)
    ∙ (λ i. with_items (row_offsets leaf'.at (long i) (sym (length-run_offsets run) i)) (map make (run_offsets run)) rows)
    ∙ λ i. with_items (row_offsets (same i).at item (length (run_offsets run))) (map (leaf_from (first i) (same i).scalar other) (run_offsets run)) rows

-- ---- byte strings that are copied over zeros

put-zeros : (o n : ℕ) (item bytes : List ℕ) → item_at (o + length item) n bytes ≡ replicate n 0 → put o item bytes ≡ put o (item ++ replicate n 0) bytes
put-zeros o n item bytes zeros =
    let rest = drop (o + length item) bytes in
    let past : drop n rest ≡ drop (o + length (item ++ replicate n 0)) bytes = drop-drop n (o + length item) bytes ∙ ap (λ k. drop k bytes) (omega (arith, length-append item (replicate n 0), length-replicate {A = ℕ} n 0)) in
    ap (λ back. take o bytes ++ item ++ back) (sym (take-append-drop n rest) ∙ λ i. zeros i ++ past i)
    ∙ sym (append_assoc (take o bytes ++ item) (replicate n 0) (drop (o + length (item ++ replicate n 0)) bytes))
    ∙ ap (λ front. front ++ drop (o + length (item ++ replicate n 0)) bytes) (append_assoc (take o bytes) item (replicate n 0))

module _ (m n at row : ℕ) (run : Run) (other rows : List ℕ) (fits : at + n ≤ row) (room : run.count * row ≤ length rows) (within : EachWithin (length other) run.offset run.step m run.count)
    (zeros : (p w j : ℕ) → at ≤ p → p + w ≤ at + n → j < run.count → item_at (p + j * row) w rows ≡ replicate w 0) where
  abbrev leaf : ℕ → List ℕ
  leaf k = leaf_cast (Bytes m) (Bytes n) (item_at (place run.offset run.step k) m other)

  abbrev front : ℕ → List ℕ
  front k = item_at (place run.offset run.step k) (min m n) other

  abbrev after : ℕ → List ℕ
  after k = with_leaves leaf at row k rows

  most : (k : ℕ) → k < run.count → suc k * row ≤ length rows
  most k low = let more : suc k * row ≤ run.count * row = mul-le-mul_right row low in omega (arith, more, room)

  long : (k : ℕ) → k ≤ run.count → length (after k) ≡ length rows
  long zero few = refl
  long (suc k) few = length-put (at + k * row) (leaf k) (after k) (omega (arith, long k (omega (arith, few)), most k few, fits, suc-mul k row, length-leaf_cast (Bytes m) (Bytes n) (item_at (place run.offset run.step k) m other))) ∙ long k (omega (arith, few))

  -- the rows to come are unchanged
  unchanged : (k p w : ℕ) → k ≤ run.count → k * row ≤ p → p + w ≤ length rows → item_at p w (after k) ≡ item_at p w rows
  unchanged zero p w few from ends = refl
  unchanged (suc k) p w few from ends =
      let wide = length-leaf_cast (Bytes m) (Bytes n) (item_at (place run.offset run.step k) m other) in
      let same = long k (omega (arith, few)) in
      item_at-put_apart (at + k * row) (leaf k) (after k) p w (omega (arith, same, most k few, fits, suc-mul k row, wide)) (omega (arith, same, ends)) (inr (omega (arith, wide, fits, from, suc-mul k row)))
      ∙ unchanged k p w (omega (arith, few)) (omega (arith, from, suc-mul k row)) ends

  -- the bytes that are kept, and the zeros behind them
  leaf-is : (k : ℕ) → k < run.count → (front k ++ replicate (n - min m n) 0 ≡ leaf k) × (length (front k) ≡ min m n)
  leaf-is k low =
      let o = place run.offset run.step k in
      let inside = place_within (length other) run.offset run.step m run.count k within low in
      let whole = length-item_at o m other inside in (
        ap (λ front. front ++ replicate (n - min m n) 0) (sym (take-take (min m n) m (drop o other) (omega arith))) ∙ text_pushed n (min m n) (item_at o m other) (ap (λ long. min long n) (sym whole)),
        length-item_at o (min m n) other (omega (arith, inside)),
      )

  same : (k : ℕ) → k ≤ run.count → with_leaves front at row k rows ≡ after k
  same zero few = refl
  same (suc k) few =
      let is = leaf-is k few in
      let o = at + k * row in
      let kept : o + length (front k) ≡ at + min m n + k * row = omega (arith, is.1) in
      ap (put o (front k)) (same k (omega (arith, few)))
      ∙ put-zeros o (n - min m n) (front k) (after k) (ap (λ p. item_at p (n - min m n) (after k)) kept
      ∙ unchanged k (at + min m n + k * row) (n - min m n) (omega (arith, few)) (omega arith) (omega (arith, most k few, fits, suc-mul k row))
      ∙ zeros (at + min m n) (n - min m n) k (omega arith) (omega arith) few)
      ∙ ap (λ item. put o item (after k)) is.0

  pub texts-copied : with_items (row_offsets at row run.count) (map (λ o. item_at o (min m n) other) (run_offsets run)) rows ≡ with_leaves leaf at row run.count rows
  texts-copied = sym (leaves-put (λ o. item_at o (min m n) other) run (length other) m at row within rows run.count (omega arith)) ∙ same run.count (omega arith)

-- ---- parts of a run

-- the offset at which a part begins
part-at : (len width : ℕ) (run : Run) (k : ℕ) → EachWithin len run.offset run.step width run.count → k < run.count → pos (place run.offset run.step k) ≡ pos run.offset +ℤ run.step *ℤ pos k
part-at len width run k within low = not_negative (position run.offset run.step k) (within.each k low).0 ∙ ap (λ z. pos run.offset +ℤ z) (*ℤ_comm (pos k) run.step)

-- the first items, and then those of a part
pub run-parts : (len width : ℕ) (run : Run) (k n : ℕ) → EachWithin len run.offset run.step width run.count → k < run.count → run_offsets (record { offset = run.offset; count = k + n; step = run.step }) ≡ run_offsets (record { offset = run.offset; count = k; step = run.step }) ++ run_offsets (run_part run k n)
run-parts len width run k n within low =
    let front = numbers_from (pos run.offset) run.step k in
    ap (map natural) (numbers-split (pos run.offset) run.step k n)
    ∙ map-append natural front (numbers_from (pos run.offset +ℤ run.step *ℤ pos k) run.step n)
    ∙ ap (λ z. map natural front ++ map natural (numbers_from z run.step n)) (sym (part-at len width run k within low))

-- a part lies within the bytes
pub part-within : (len width : ℕ) (run : Run) (k n : ℕ) → EachWithin len run.offset run.step width run.count → k < run.count → k + n ≤ run.count → EachWithin len (place run.offset run.step k) run.step width n
part-within len width run k n within low ends = record {
  each = λ j below.
      let lies = within.each (k + j) (omega (arith, below, ends)) in
      let at = position-add run.offset run.step k j (within.each k low).0 in
      (subst (λ z. pos 0 ≤ℤ z) (sym at) lies.0, subst (λ z. (z +ℤ pos width) ≤ℤ pos len) (sym at) lies.1);
}

-- ---- items that are cast

pub length-cast_items : (from to : Descr) (other os : List ℕ) → length (cast_items from to other os) ≡ length os
length-cast_items from to other os = length-map os (λ o. cast_item from to (item_from from other o))

-- items with the same bytes
pub same-cast : (from to : Descr) (width : ℕ) (other bytes os os' : List ℕ) → width ≡ item_size from → items_at os width other ≡ items_at os' width bytes → cast_items from to other os ≡ cast_items from to bytes os'
same-cast from to width other bytes os os' wide same =
    let make = λ (item : List ℕ). cast_item from to (decode_item from item) in
    sym (map-map make (λ o. item_at o (item_size from) other) os)
    ∙ ap (map make) (subst (λ w. items_at os w other ≡ items_at os' w bytes) wide same)
    ∙ map-map make (λ o. item_at o (item_size from) bytes) os'
