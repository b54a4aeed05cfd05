-- Which lengths make a shape, and which refusal is returned otherwise.
use Rattle.std.specs.Prelude.{◌≡◌, ℕ, ◌<◌, ◌≤◌, map, nat_le, true, false, List, length, All, [], ◌∷◌}
use Rattle.std.proofs.Common.{min, Ok, Err, inl, inr, refl, ap, sym, ◌∙◌, arith}
use Rattle.shape_strides.specs.Words.{list_all, cases_lt, cases_Bool, lt-leb, le-leb, leb-true, leb-false, and_parts, length-map, min-eq_left, All-head, All-tail, TooManyAxes, TooLarge, same_answer, check_passed}
use Rattle.shape_strides.specs.Limits.{max_axes, max_items}
use Rattle.shape_strides.specs.Indexes.{count}
use Rattle.shape_strides.specs.Shapes.{shape_of, IsShape}

pub shape_of-many : (lengths : List ℕ) → max_axes < length lengths → shape_of lengths ≡ Err TooManyAxes
unfolding shape_of
shape_of-many lengths many = rw (lt-leb (length lengths) max_axes many) refl

pub shape_of-long : (lengths : List ℕ) → length lengths ≤ max_axes → list_all (λ n. nat_le n max_items) lengths ≡ false → shape_of lengths ≡ Err TooLarge
unfolding shape_of
shape_of-long lengths few long = rw (le-leb (length lengths) max_axes few, long) refl

pub shape_of-large : (lengths : List ℕ) → length lengths ≤ max_axes → list_all (λ n. nat_le n max_items) lengths ≡ true → max_items < count lengths → shape_of lengths ≡ Err TooLarge
unfolding shape_of
shape_of-large lengths few short large = rw (le-leb (length lengths) max_axes few, short, lt-leb (count lengths) max_items large) refl

pub shape_of-ok : (lengths : List ℕ) → length lengths ≤ max_axes → list_all (λ n. nat_le n max_items) lengths ≡ true → count lengths ≤ max_items → shape_of lengths ≡ Ok lengths
unfolding shape_of
shape_of-ok lengths few short small = rw (le-leb (length lengths) max_axes few, short, le-leb (count lengths) max_items small) refl

-- A shape has the lengths that it was made from.
pub shape_of-same : (lengths shape : List ℕ) → shape_of lengths ≡ Ok shape → lengths ≡ shape
unfolding shape_of
shape_of-same lengths shape found =
    same_answer lengths shape (check_passed (nat_le (count lengths) max_items) TooLarge (Ok lengths) shape (check_passed (list_all (λ n. nat_le n max_items) lengths) TooLarge _ shape (check_passed (nat_le (length lengths) max_axes) TooManyAxes _ shape found)))

pub shape_read : (shape : List ℕ) → IsShape shape → shape_of shape ≡ Ok shape
shape_read shape is = shape_of-ok shape is.axes (all shape is.lengths) is.items
  where
    all : (lengths : List ℕ) → All (λ n. n ≤ max_items) lengths → list_all (λ n. nat_le n max_items) lengths ≡ true
    all [] few = refl
    all (n ∷ lengths) few = rw (le-leb n max_items (All-head (λ m. m ≤ max_items) n lengths few)) (all lengths (All-tail (λ m. m ≤ max_items) n lengths few))

-- A length and the capped length are both within the limit, or both above it.
fits-capped : (top n : ℕ) → max_items < top → nat_le (min n top) max_items ≡ nat_le n max_items
fits-capped top n above = elim (cases_Bool (nat_le n max_items)) [
  | inl low ↦ le-leb _ _ (omega (arith, above, leb-true n max_items low)) ∙ sym low
  | inr high ↦ lt-leb _ _ (omega (arith, above, leb-false n max_items high)) ∙ sym high
]

all_fit-capped : (top : ℕ) (lengths : List ℕ) → max_items < top → list_all (λ n. nat_le n max_items) (map (λ n. min n top) lengths) ≡ list_all (λ n. nat_le n max_items) lengths
all_fit-capped top [] above = refl
all_fit-capped top (n ∷ lengths) above = rw (fits-capped top n above, all_fit-capped top lengths above) refl

short-capped : (top : ℕ) (lengths : List ℕ) → max_items < top → list_all (λ n. nat_le n max_items) lengths ≡ true → map (λ n. min n top) lengths ≡ lengths
short-capped top [] above low = refl
short-capped top (n ∷ lengths) above low =
    let both = and_parts (nat_le n max_items) (list_all (λ m. nat_le m max_items) lengths) low in
    let first = leb-true n max_items both.0 in
    ap (λ m. m ∷ map (λ n. min n top) lengths) (min-eq_left (omega (arith, above, first))) ∙ ap (λ rest. n ∷ rest) (short-capped top lengths above both.1)

-- Capping the lengths at a number above the limit changes neither the shape nor the refusal.
pub shape_of-capped : (top : ℕ) (lengths : List ℕ) → max_items < top → shape_of (map (λ n. min n top) lengths) ≡ shape_of lengths
shape_of-capped top lengths above =
    let size : length (map (λ n. min n top) lengths) ≡ length lengths = length-map lengths (λ n. min n top) in
    elim (cases_lt max_axes (length lengths)) [
      | inl many ↦ shape_of-many (map (λ n. min n top) lengths) (omega (arith, size, many)) ∙ sym (shape_of-many lengths many)
      | inr few ↦ elim (cases_Bool (list_all (λ n. nat_le n max_items) lengths)) [
        | inl low ↦ ap shape_of (short-capped top lengths above low)
        | inr high ↦ shape_of-long (map (λ n. min n top) lengths) (omega (arith, size, few)) (all_fit-capped top lengths above ∙ high) ∙ sym (shape_of-long lengths few high)
      ]
    ]
