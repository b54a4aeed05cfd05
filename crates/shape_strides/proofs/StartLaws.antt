-- Laws of the axes outside of a run, and of how they are put together.
use Rattle.std.proofs.Common.{◌≡◌, ℕ, zero, suc, ◌+◌, ◌-◌, ◌*◌, ◌<◌, ◌≤◌, ◌==◌, ℤ, List, [], ◌∷◌, ◌++◌, reverse, length, get_or, drop, refl, sym, ◌∙◌, ap, subst, arith, mul_assoc, mul-le-mul_left, mul-le-mul_right, one-mul, length-drop}
use Rattle.shape_strides.proofs.Words.{cond_both, eqb-true, reverse-append, StridedAxis, max_items, count, strided_axes, leads_over, join_outside, all_joined, lengths_of, factors_pos, count-drop}

-- ---- numbers of items

pub count-join_outside : (axis : StridedAxis) (axes : List StridedAxis) → count (lengths_of (join_outside axis axes)) ≡ axis.len * count (lengths_of axes)
count-join_outside axis [] =
    cond_both (axis.len == 1) [] (axis ∷ []) (λ made. count (lengths_of made) ≡ axis.len * 1) (λ single. let is = eqb-true axis.len 1 single in omega arith) (λ _. refl)
count-join_outside axis (inner ∷ axes) =
    let merged : StridedAxis = record { len = axis.len * inner.len; stride = inner.stride } in
    let c = inner.len * count (lengths_of axes) in
    cond_both (axis.len == 1) (inner ∷ axes) _ (λ made. count (lengths_of made) ≡ axis.len * c) (λ single. sym (ap (λ n. n * c) (eqb-true axis.len 1 single) ∙ one-mul c)) (λ _.
    cond_both (leads_over axis inner) (merged ∷ axes) (axis ∷ inner ∷ axes) (λ made. count (lengths_of made) ≡ axis.len * c) (λ _. mul_assoc axis.len inner.len (count (lengths_of axes))) (λ _. refl))

pub count-joined : (axes : List StridedAxis) → count (lengths_of (all_joined axes)) ≡ count (lengths_of axes)
count-joined [] = refl
count-joined (axis ∷ axes) = count-join_outside axis (all_joined axes) ∙ ap (λ c. axis.len * c) (count-joined axes)

pub lengths_of-axes : (strides : List ℤ) (shape : List ℕ) → length strides ≡ length shape → lengths_of (strided_axes strides shape) ≡ shape
lengths_of-axes [] [] same = refl
lengths_of-axes (s ∷ strides) (n ∷ shape) same = ap (λ l. n ∷ l) (lengths_of-axes strides shape (omega arith))
lengths_of-axes _ _ same = absurd (omega arith)

-- ---- adding an outer axis

pub innermost_first : (old new : List StridedAxis) (inner : StridedAxis) → old ≡ new ++ inner ∷ [] → reverse old ≡ inner ∷ reverse new
innermost_first old new inner is = ap reverse is ∙ reverse-append new (inner ∷ [])

factors-le : (a b c top : ℕ) → 0 < a * (b * c) → a * (b * c) ≤ top → (b ≤ top) × (a * b ≤ top)
factors-le a b c top some low =
    let outer = factors_pos a (b * c) some in
    let inner = factors_pos b c outer.1 in
    let whole : a * b * c ≡ a * (b * c) = mul_assoc a b c in
    let grown : a * b * 1 ≤ a * b * c = mul-le-mul_left (a * b) inner.1 in
    let grown' : 1 * b ≤ a * b = mul-le-mul_right b outer.0 in
    (omega arith, omega arith)

pub put-bounds : (axis inner : StridedAxis) (old new : List StridedAxis) → old ≡ new ++ inner ∷ [] → 0 < axis.len * count (lengths_of (reverse old)) → axis.len * count (lengths_of (reverse old)) ≤ max_items → (inner.len ≤ max_items) × (axis.len * inner.len ≤ max_items)
put-bounds axis inner old new is some low =
    let same = innermost_first old new inner is in
    factors-le axis.len inner.len (count (lengths_of (reverse new))) max_items (subst (λ axes. 0 < axis.len * count (lengths_of axes)) same some) (subst (λ axes. axis.len * count (lengths_of axes) ≤ max_items) same low)

-- ---- the axes from j on

pub count-later : (lengths : List ℕ) (j : ℕ) → 0 < count lengths → (0 < count (drop j lengths)) × (count (drop j lengths) ≤ count lengths)
count-later (n ∷ lengths) (suc j) some =
    let both = factors_pos n (count lengths) some in
    let later = count-later lengths j both.1 in
    let grown : 1 * count lengths ≤ n * count lengths = mul-le-mul_right (count lengths) both.0 in
    (later.0, omega arith)
count-later lengths zero some = (some, omega arith)
count-later [] (suc j) some = (some, omega arith)

-- Axis j is outside of the joined axes after it.
pub record StandsBefore (strides : List ℤ) (lengths : List ℕ) (j : ℕ) (axes : List StridedAxis) : Type 0 where
  pub one_each : length strides ≡ length lengths
  pub below : j < length lengths
  pub are : reverse axes ≡ all_joined (strided_axes (drop (j + 1) strides) (drop (j + 1) lengths))

pub stands_before_axis : (strides : List ℤ) (lengths : List ℕ) (k : ℕ) (axes : List StridedAxis) → length strides ≡ length lengths → 0 < k → k ≤ length lengths → reverse axes ≡ all_joined (strided_axes (drop k strides) (drop k lengths)) → StandsBefore strides lengths (k - 1) axes
stands_before_axis strides lengths k axes same some most are =
    let next : k ≡ k - 1 + 1 = omega arith in
    record { one_each = same; below = omega arith; are = are ∙ ap (λ i. all_joined (strided_axes (drop i strides) (drop i lengths))) next }

put-count : (strides : List ℤ) (lengths : List ℕ) (j : ℕ) (axes : List StridedAxis) → StandsBefore strides lengths j axes → get_or lengths j 0 * count (lengths_of (reverse axes)) ≡ count (drop j lengths)
put-count strides lengths j axes s =
    let same : length (drop (j + 1) strides) ≡ length (drop (j + 1) lengths) = omega (arith, length-drop (j + 1) strides, length-drop (j + 1) lengths, s.one_each) in
    let later = ap (λ made. count (lengths_of made)) s.are ∙ count-joined (strided_axes (drop (j + 1) strides) (drop (j + 1) lengths)) ∙ ap count (lengths_of-axes (drop (j + 1) strides) (drop (j + 1) lengths) same) in
    ap (λ c. get_or lengths j 0 * c) later ∙ sym (count-drop lengths j s.below)

pub put-range : (strides : List ℤ) (lengths : List ℕ) (j : ℕ) (axes : List StridedAxis) → StandsBefore strides lengths j axes → 0 < count lengths → count lengths ≤ max_items → (0 < get_or lengths j 0 * count (lengths_of (reverse axes))) × (get_or lengths j 0 * count (lengths_of (reverse axes)) ≤ max_items)
put-range strides lengths j axes s some low =
    let is = put-count strides lengths j axes s in
    let later = count-later lengths j some in
    (omega arith, omega arith)
