-- Results that are made column by column, and read in C order.
use Rattle.std.proofs.Common.{◌≡◌, ◌+◌, ◌*◌, ◌<◌, ℕ, zero, suc, List, [], ◌∷◌, ◌++◌, length, reverse, get_or, take, drop, sym, ap, ◌∙◌, arith, zero-mul, suc-mul, mul_comm, length-append}
use Rattle.elementwise.proofs.Words.{concat, Each, take-append_seam, drop-append-add, get_or-map, length-map-range_with_len, get_or-map-range_with_len, item_at, all_joined, fortran_order, count, rank, rank-lt, index_at, multiples, count-reverse, IsIndex-reverse, items_at, length-fortran, fortran-at, pairwise}
use Rattle.elementwise.proofs.PairLaws.{length-pairwise, get_or-pairwise}

-- ---- concatenated items of one width

module _ (width : ℕ) where
  abbrev pub AreWide : List (List ℕ) → Type 0
  AreWide items = Each (λ item. length item ≡ width) items

  pub length-concat : (items : List (List ℕ)) → AreWide items → length (concat items) ≡ length items * width
  length-concat [] wide = sym (zero-mul width)
  length-concat (item ∷ items) wide = omega (arith, length-append item (concat items), wide.0, length-concat items wide.1, suc-mul (length items) width)

  item-concat : (items : List (List ℕ)) (k : ℕ) → AreWide items → k < length items → item_at (k * width) width (concat items) ≡ get_or items k []
  item-concat [] k wide below = absurd (omega (arith, below))
  item-concat (item ∷ items) zero wide below =
      let none : 0 * width ≡ 0 = zero-mul width in
      (λ i. take width (drop (none i) (item ++ concat items)))
      ∙ ap (λ n. take n (item ++ concat items)) (sym wide.0)
      ∙ take-append_seam item (concat items)
  item-concat (item ∷ items) (suc k) wide below =
      let next : suc k * width ≡ length item + k * width = omega (arith, suc-mul k width, wide.0) in
      (λ i. take width (drop (next i) (item ++ concat items)))
      ∙ ap (take width) (drop-append-add item (concat items) (k * width))
      ∙ item-concat items k wide.1 (omega (arith, below))

  -- bytes that have the same items are the same
  pub same-concat : (items : List (List ℕ)) (bytes : List ℕ) → AreWide items → length bytes ≡ length items * width → ((k : ℕ) → k < length items → item_at (k * width) width bytes ≡ get_or items k []) → bytes ≡ concat items
  same-concat items bytes wide long each =
      all_joined (λ k. get_or items k []) width (length items) bytes long each
      ∙ sym (all_joined (λ k. get_or items k []) width (length items) (concat items) (length-concat items wide) (λ k below. item-concat items k wide below))

-- ---- pairs in Fortran order

module _ (make : ℕ → ℕ → List ℕ) (width : ℕ) (shape xs ys : List ℕ) (many : length xs ≡ count shape) (many' : length ys ≡ count shape) where
  abbrev made : List (List ℕ)
  made = pairwise make xs ys

  abbrev turned : List (List ℕ)
  turned = pairwise make (fortran_order shape xs) (fortran_order shape ys)

  even : length xs ≡ length ys
  even = many ∙ sym many'

  turned-even : length (fortran_order shape xs) ≡ length (fortran_order shape ys)
  turned-even = length-fortran shape xs ∙ sym (length-fortran shape ys)

  pub turned-back : (columns block bytes : List ℕ) → AreWide width made → AreWide width turned → length columns ≡ count shape → fortran_order shape columns ≡ multiples width (count shape) → block ≡ concat turned → length bytes ≡ length columns * width
      → items_at (multiples width (length columns)) width bytes ≡ items_at columns width block → bytes ≡ concat made
  turned-back columns block bytes wide wide' counted order is long same =
      let all : length made ≡ count shape = length-pairwise make xs ys even ∙ many in
      let long' : length bytes ≡ length made * width = long ∙ ap (λ n. n * width) (counted ∙ sym all) in
      same-concat width made bytes wide long' (λ k below.
      let low : k < count shape = omega (arith, below, all) in
      let here : k < length columns = omega (arith, low, counted) in
      let found = index_at shape k low in
      let r = rank (reverse shape) (reverse found.0) in
      let r_low : r < count shape = omega (arith, rank-lt (reverse shape) (reverse found.0) (IsIndex-reverse shape found.0 found.1), count-reverse shape) in
      let r_here : r < length turned = omega (arith, r_low, length-pairwise make (fortran_order shape xs) (fortran_order shape ys) turned-even, length-fortran shape xs) in
      let at = λ (offsets : List ℕ). fortran-at shape found.0 offsets found.1 ∙ ap (λ j. get_or offsets j 0) found.2 in
      let place : get_or columns k 0 ≡ r * width = sym (at columns) ∙ ap (λ os. get_or os r 0) order ∙ get_or-map-range_with_len (λ j. width * j) 0 (count shape) r r 0 r_low (omega arith) ∙ mul_comm width r in
      let read = λ (b : List ℕ) (o : ℕ). item_at o width b in
      let mine : get_or (multiples width (length columns)) k 0 ≡ k * width = get_or-map-range_with_len (λ j. width * j) 0 (length columns) k k 0 here (omega arith) ∙ mul_comm width k in
      ap (read bytes) (sym mine)
      ∙ sym (get_or-map (read bytes) (multiples width (length columns)) k 0 [] (omega (arith, here, length-map-range_with_len (λ j. width * j) 0 (length columns))))
      ∙ ap (λ items. get_or items k []) same
      ∙ get_or-map (read block) columns k 0 [] here
      ∙ (λ i. item_at (place i) width (is i))
      ∙ item-concat width turned r wide' r_here
      ∙ get_or-pairwise make (fortran_order shape xs) (fortran_order shape ys) r 0 [] (omega (arith, r_low, length-fortran shape xs)) turned-even
      ∙ (λ i. make (at xs i) (at ys i))
      ∙ sym (get_or-pairwise make xs ys k 0 [] (omega (arith, low, many)) even))

  pub turned-long : (block : List ℕ) → AreWide width turned → block ≡ concat turned → length block ≡ count shape * width
  turned-long block wide is =
      ap length is
      ∙ length-concat width turned wide
      ∙ ap (λ n. n * width) (length-pairwise make (fortran_order shape xs) (fortran_order shape ys) turned-even ∙ length-fortran shape xs)
