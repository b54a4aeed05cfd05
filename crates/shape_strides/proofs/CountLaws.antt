-- Laws of the number of items: the capped product and its division.
use Rattle.std.proofs.Common.{◌≡◌, ℕ, suc, ◌+◌, ◌*◌, ◌/◌, ◌<◌, min, ℤ, pos, List, [], ◌∷◌, map, length, get_or, drop, inl, inr, refl, sym, ◌∙◌, ap, arith, mul_assoc, mul_comm, mul-div_cancel}
use Rattle.shape_strides.proofs.Words.{cases_lt, drop_more, length-map, count, c_strides, factors_pos, min-mul, count-drop}

-- The capped product takes one more factor.
pub capped-more : (lengths : List ℕ) (k items top : ℕ) → k < length lengths → min (min (items * get_or lengths k 0) top * count (drop (k + 1) lengths)) top ≡ min (items * count (drop k lengths)) top
capped-more lengths k items top below =
    let n = get_or lengths k 0 in
    let c = count (drop (k + 1) lengths) in
    min-mul (items * n) c top ∙ ap (λ x. min x top) (mul_assoc items n c ∙ ap (λ x. items * x) (sym (count-drop lengths k below)))

-- The bytes of an axis divided by its length are the bytes of one step along it.
pub bytes-more : (lengths : List ℕ) (k bytes item : ℕ) → k < length lengths → 0 < bytes → bytes ≡ count (drop k lengths) * item → (bytes / get_or lengths k 0 ≡ count (drop (k + 1) lengths) * item) × (0 < bytes / get_or lengths k 0)
bytes-more lengths k bytes item below some is =
    let n = get_or lengths k 0 in
    let c = count (drop (k + 1) lengths) in
    let whole : bytes ≡ n * (c * item) = is ∙ ap (λ x. x * item) (count-drop lengths k below) ∙ mul_assoc n c item in
    let both = factors_pos n (c * item) (omega arith) in
    let step : bytes / n ≡ c * item = ap (λ x. x / n) (whole ∙ mul_comm n (c * item)) ∙ mul-div_cancel (c * item) both.0 in
    (step, omega (arith, both.1))

pub c_strides-drop : (item : ℕ) (lengths : List ℕ) (k : ℕ) → k < length lengths → c_strides item (drop k lengths) ≡ pos (count (drop (k + 1) lengths) * item) ∷ c_strides item (drop (k + 1) lengths)
c_strides-drop item lengths k below = ap (c_strides item) (drop_more lengths k 0 below)

-- ---- a stride for each axis

pub length-c_strides : (item : ℕ) (shape : List ℕ) → length (c_strides item shape) ≡ length shape
length-c_strides item [] = refl
length-c_strides item (n ∷ shape) = ap suc (length-c_strides item shape)

-- strides in some order if there are items, and 0 otherwise
pub length-ordered : (shape : List ℕ) (ordered strides : List ℤ) → length ordered ≡ length shape → (0 < count shape → strides ≡ ordered) → (count shape ≡ 0 → strides ≡ map (λ _. pos 0) shape) → length strides ≡ length shape
length-ordered shape ordered strides same some none =
    elim (cases_lt 0 (count shape)) [
      | inl above ↦ ap length (some above) ∙ same
      | inr empty ↦ ap length (none (omega arith)) ∙ length-map shape (λ _. pos 0)
    ]

pub length-c_order : (item : ℕ) (shape : List ℕ) (strides : List ℤ) → (0 < count shape → strides ≡ c_strides item shape) → (count shape ≡ 0 → strides ≡ map (λ _. pos 0) shape) → length strides ≡ length shape
length-c_order item shape strides some none = length-ordered shape (c_strides item shape) strides (length-c_strides item shape) some none
