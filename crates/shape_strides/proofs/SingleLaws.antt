-- Laws of layouts whose items make a single run.
use Rattle.std.proofs.Common.{◌≡◌, ℕ, zero, suc, ◌+◌, ◌-◌, ◌*◌, ◌<◌, ◌≤◌, ◌==◌, inl, inr, ℤ, pos, List, [], ◌∷◌, All, length, get_or, drop, refl, sym, ◌∙◌, ap, subst, arith}
use Rattle.shape_strides.proofs.Words.{cases_lt, cond_both, cond-true, cond-false, eq-eqb, ne_eqb, append-nil, flat_map, Layout, StridedAxis, max_items, count, LieWithin, offsets, Fits, strided_axes, leads_over, join_outside, all_joined, run_offsets, run_along, runs_from, runs, GoesBy, if_long, AreJoinedFrom, IsLastRun, factors_pos, count-drop}
use Rattle.shape_strides.proofs.RunLaws.{runs-some, runs-offsets, two_never, run_goes}
use Rattle.shape_strides.proofs.StartLaws.{count-later}
use Rattle.shape_strides.proofs.RunBounds.{runs-lie}

long_axis : (axis : StridedAxis) → 2 ≤ axis.len → if_long axis ≡ axis ∷ []
long_axis axis two = cond-false (axis.len == 1) [] (axis ∷ []) (ne_eqb axis.len 1 (λ is. omega arith))

-- ---- two axes that do not join

grows : (axis : StridedAxis) (axes : List StridedAxis) → 2 ≤ length axes → 2 ≤ length (join_outside axis axes)
grows axis [] two = absurd (omega arith)
grows axis (inner ∷ axes) two =
    let merged : StridedAxis = record { len = axis.len * inner.len; stride = inner.stride } in
    cond_both (axis.len == 1) (inner ∷ axes) _ (λ made. 2 ≤ length made) (λ _. two) (λ _.
    cond_both (leads_over axis inner) (merged ∷ axes) (axis ∷ inner ∷ axes) (λ made. 2 ≤ length made) (λ _. omega (arith, two)) (λ _. omega (arith, two)))

pub two_of_later : (strides : List ℤ) (shape : List ℕ) (j : ℕ) → length strides ≡ length shape → 2 ≤ length (all_joined (strided_axes (drop j strides) (drop j shape))) → 2 ≤ length (all_joined (strided_axes strides shape))
two_of_later strides shape zero same two = two
two_of_later [] [] (suc j) same two = two
two_of_later (s ∷ strides) (n ∷ shape) (suc j) same two = grows (record { len = n; stride = s }) (all_joined (strided_axes strides shape)) (two_of_later strides shape j (omega (arith, same)) two)
two_of_later _ _ (suc j) same two = absurd (omega (arith, same))

pub stay_two : (l : Layout) (strides : List ℤ) (lengths : List ℕ) (j : ℕ) (outer inner : StridedAxis) → strides ≡ l.strides → lengths ≡ l.shape → length strides ≡ length lengths → all_joined (strided_axes (drop j strides) (drop j lengths)) ≡ outer ∷ inner ∷ [] → 2 ≤ length (all_joined (strided_axes l.strides l.shape))
stay_two l strides lengths j outer inner are are' same two =
    subst (λ s. 2 ≤ length (all_joined (strided_axes s l.shape))) are (subst (λ s. 2 ≤ length (all_joined (strided_axes strides s))) are' (two_of_later strides lengths j same (omega (arith, ap length two))))

-- Then the layout is not a single run.
pub no_run : (l : Layout) (step : ℤ) → 0 < count l.shape → 2 ≤ length (all_joined (strided_axes l.strides l.shape)) → GoesBy step (offsets l) → ⊥
no_run l step some two by = at (all_joined (strided_axes l.strides l.shape)) refl two
  where
    at : (axes : List StridedAxis) → all_joined (strided_axes l.strides l.shape) ≡ axes → 2 ≤ length axes → ⊥
    at [] are more = absurd (omega (arith, more))
    at (axis ∷ []) are more = absurd (omega (arith, more))
    at (outer ∷ inner ∷ axes) are more = two_never l step outer inner axes some are by

-- ---- an axis outside of joined axes

-- If there are items, an axis and the joined axes inside of it have at least one each, and at most max_items together.
pub joined_items : (strides : List ℤ) (lengths : List ℕ) (k : ℕ) (along : StridedAxis) → 0 < k → k ≤ length lengths → AreJoinedFrom strides lengths k along → 0 < count lengths → count lengths ≤ max_items → (1 ≤ get_or lengths (k - 1) 0) × (1 ≤ along.len) × (get_or lengths (k - 1) 0 * along.len ≤ max_items) × (get_or lengths (k - 1) 0 * along.len ≡ count (drop (k - 1) lengths))
joined_items strides lengths k along some most from items few =
    let next : k - 1 + 1 ≡ k = omega arith in
    let before = count-later lengths (k - 1) items in
    let later = count-later lengths k items in
    let whole : count (drop (k - 1) lengths) ≡ get_or lengths (k - 1) 0 * along.len = count-drop lengths (k - 1) (omega arith) ∙ ap (λ j. get_or lengths (k - 1) 0 * count (drop j lengths)) next ∙ ap (λ n. get_or lengths (k - 1) 0 * n) (sym from.items) in
    let both = factors_pos (get_or lengths (k - 1) 0) along.len (omega (arith, whole, before.0)) in
    (both.0, both.1, omega (arith, whole, before.1, few), sym whole)

-- If an axis remains outside, the layout is not a single run.
pub outside_no_run : (l : Layout) (outside : ℕ) (along : StridedAxis) (step : ℤ) → 0 < count l.shape → IsLastRun l.strides l.shape outside along → 0 < outside → GoesBy step (offsets l) → ⊥
outside_no_run l outside along step items last some by =
    no_run l step items (stay_two l l.strides l.shape (outside - 1) (record { len = get_or l.shape (outside - 1) 0; stride = get_or l.strides (outside - 1) (pos 0) }) along refl refl l.one_stride_an_axis (last.apart some)) by

-- ---- the run

pub is_axis : (l : Layout) (along : StridedAxis) → 2 ≤ count l.shape → AreJoinedFrom l.strides l.shape 0 along → all_joined (strided_axes l.strides l.shape) ≡ along ∷ []
is_axis l along two from = sym from.are ∙ long_axis along (omega (arith, two, from.items))

-- One item is a run with step 0.
one_item : (l : Layout) (along : StridedAxis) → 1 ≤ count l.shape → along.len ≡ 1 → AreJoinedFrom l.strides l.shape 0 along → runs l ≡ run_along along l.offset ∷ []
one_item l along some one from =
    let none : all_joined (strided_axes l.strides l.shape) ≡ [] = sym from.are ∙ cond-true (along.len == 1) [] (along ∷ []) (eq-eqb along.len 1 one) in
    runs-some l some
    ∙ ap (runs_from (pos l.offset)) none
    ∙ (λ i. record { offset = l.offset; count = sym one i; step = sym (from.single one) i } ∷ [])

pub is_run : (l : Layout) (along : StridedAxis) → 1 ≤ count l.shape → AreJoinedFrom l.strides l.shape 0 along → runs l ≡ run_along along l.offset ∷ []
is_run l along some from = elim (cases_lt along.len 2) [
  | inl one ↦ one_item l along some (omega (arith, one, some, from.items)) from
  | inr two ↦ runs-some l some ∙ ap (runs_from (pos l.offset)) (is_axis l along (omega (arith, two, from.items)) from)
]

pub run_is_all : (l : Layout) (along : StridedAxis) → 1 ≤ count l.shape → AreJoinedFrom l.strides l.shape 0 along → run_offsets (run_along along l.offset) ≡ offsets l
run_is_all l along some from = sym (append-nil (run_offsets (run_along along l.offset))) ∙ ap (flat_map run_offsets) (sym (is_run l along some from)) ∙ runs-offsets l

pub run_fits : (l : Layout) (along : StridedAxis) → 1 ≤ count l.shape → AreJoinedFrom l.strides l.shape 0 along → (len item : ℕ) → Fits l len item → LieWithin (along.len ∷ []) (along.stride ∷ []) l.offset len item
run_fits l along some from len item fits =
    subst (λ all. All (λ run. LieWithin (run.count ∷ []) (run.step ∷ []) run.offset len item) all) (is_run l along some from) (runs-lie l len item fits) 0 (run_along along l.offset) (omega arith)

pub run_steps : (l : Layout) (along : StridedAxis) → 2 ≤ count l.shape → AreJoinedFrom l.strides l.shape 0 along → (step : ℤ) → GoesBy step (offsets l) → along.stride ≡ step
run_steps l along two from step by = run_goes l step along (omega (arith, two, from.items)) (is_axis l along two from) by

-- the same for the slices of a layout
pub last_of : (l : Layout) (strides : List ℤ) (lengths : List ℕ) (outside : ℕ) (along : StridedAxis) → strides ≡ l.strides → lengths ≡ l.shape → IsLastRun strides lengths outside along → IsLastRun l.strides l.shape outside along
last_of l strides lengths outside along are are' last = subst (λ s. IsLastRun s l.shape outside along) are (subst (λ s. IsLastRun strides s outside along) are' last)

pub whole_run : (l : Layout) (outside : ℕ) (along : StridedAxis) → outside ≤ 0 → IsLastRun l.strides l.shape outside along → AreJoinedFrom l.strides l.shape 0 along
whole_run l zero along none last = last.inside
whole_run l (suc outside) along none last = absurd (omega arith)
