-- What single axes add to an address and to a rank, and lists of strides that are all 0.
use Rattle.std.specs.Prelude.{◌≡◌, ℕ, ◌+◌, ◌*◌, ◌<◌, ◌≤◌, ℤ, pos, negsuc, ◌+ℤ◌, ◌*ℤ◌, List, [], ◌∷◌, length, map, ◌&&◌, true, int_lt, neg_ℤ}
use Rattle.std.proofs.Common.{zero, suc, get_or, drop, refl, sym, ◌∙◌, ap, arith, zero-mul, one-mul, not}
use Rattle.shape_strides.specs.Words.{length-map, get_or-map, same_lists, get_or_default, false≢true, ltb-true, and_parts, neg_ℤ-+ℤ, +ℤ_idr, *ℤ-zero, +ℤ_idl, one, *ℤ-one}
use Rattle.shape_strides.specs.Addresses.{dot, natural}
use Rattle.shape_strides.specs.Indexes.{count, rank, IsIndex}
use Rattle.shape_strides.specs.AxisIndexes.{zero_filled, unit}
use Rattle.shape_strides.specs.CountLaws.{factors_pos}

-- An index without numbers adds nothing.
pub dot-nil : (strides : List ℤ) → dot strides [] ≡ pos 0
dot-nil [] = refl
dot-nil (s ∷ strides) = refl

-- An index of zeros adds nothing.
pub dot-zeros : (strides : List ℤ) (shape : List ℕ) → dot strides (zero_filled shape []) ≡ pos 0
dot-zeros (s ∷ strides) (n ∷ shape) = rw (*ℤ-zero s, dot-zeros strides shape)
dot-zeros _ _ = refl

pub rank-zeros : (shape : List ℕ) → rank shape (zero_filled shape []) ≡ 0
rank-zeros [] = refl
rank-zeros (n ∷ shape) = omega (arith, rank-zeros shape, zero-mul (count shape))

-- If there are items, the index of zeros is an index of the shape.
pub IsIndex-first : (shape : List ℕ) → 0 < count shape → IsIndex shape (zero_filled shape [])
IsIndex-first [] some = tt
IsIndex-first (n ∷ shape) some = let both = factors_pos n (count shape) some in (both.0, IsIndex-first shape both.1)

-- If an axis has 2 items or more, the index that is 1 along it is an index of the shape.
pub IsIndex-unit : (shape : List ℕ) (axis : ℕ) → 0 < count shape → axis < length shape → 2 ≤ get_or shape axis 0 → IsIndex shape (unit shape axis)
IsIndex-unit [] axis some below long = absurd (omega arith)
IsIndex-unit (n ∷ shape) zero some below long = let both = factors_pos n (count shape) some in (omega arith, IsIndex-first shape both.1)
IsIndex-unit (n ∷ shape) (suc axis) some below long =
    let both = factors_pos n (count shape) some in
    (both.0, IsIndex-unit shape axis both.1 (omega arith) long)

pub rank-unit : (shape : List ℕ) (axis : ℕ) → axis < length shape → rank shape (unit shape axis) ≡ count (drop (suc axis) shape)
rank-unit [] axis below = absurd (omega arith)
rank-unit (n ∷ shape) zero below = omega (arith, rank-zeros shape, one-mul (count shape))
rank-unit (n ∷ shape) (suc axis) below = omega (arith, rank-unit shape axis (omega arith), zero-mul (count shape))

pub one-step : (s : ℤ) → s *ℤ pos 1 ≡ s
unfolding one
one-step s = *ℤ-one s

pub dot-unit : (strides : List ℤ) (shape : List ℕ) (axis : ℕ) → length strides ≡ length shape → axis < length shape → dot strides (unit shape axis) ≡ get_or strides axis (pos 0)
dot-unit (s ∷ strides) (n ∷ shape) zero same below = ap (λ z. s *ℤ pos 1 +ℤ z) (dot-zeros strides shape) ∙ +ℤ_idr (s *ℤ pos 1) ∙ one-step s
dot-unit (s ∷ strides) (n ∷ shape) (suc axis) same below = rw (*ℤ-zero s, +ℤ_idl (dot strides (unit shape axis))) (dot-unit strides shape axis (omega arith) (omega arith))
dot-unit _ _ axis same below = absurd (omega arith)

-- If every stride is 0 and there is one for each axis, the list of strides is a 0 for each axis.
pub zeros_are : {X : Type 0} (zeros : List ℤ) (axes : List X) (x : X) → length zeros ≡ length axes → ((k : ℕ) → k < length zeros → get_or zeros k (pos 0) ≡ pos 0) → zeros ≡ map (λ _. pos 0) axes
zeros_are zeros axes x same are =
    same_lists zeros (map (λ _. pos 0) axes) (same ∙ sym (length-map axes (λ _. pos 0))) (λ k d below.
    get_or_default zeros k d (pos 0) below ∙ are k below ∙ sym (get_or-map (λ _. pos 0) axes k x d (omega arith)))

-- A stride times k + 1 is the stride times k plus the stride.
pub *ℤ-more : (s : ℤ) (k : ℕ) → s *ℤ pos (k + 1) ≡ s *ℤ pos k +ℤ s *ℤ pos 1
*ℤ-more (pos a) k = ap pos (omega arith)
*ℤ-more (negsuc a) k =
    let sum : suc a * (k + 1) ≡ suc a * k + suc a * 1 = omega arith in
    ap (λ n. neg_ℤ (pos n)) sum ∙ neg_ℤ-+ℤ (pos (suc a * k)) (pos (suc a * 1))

pub axis_below : (n : ℕ) (z : ℤ) → (not (int_lt z (pos 0)) && int_lt z (pos n)) ≡ true → natural z < n
axis_below n (pos k) is = ltb-true k n (and_parts (not (int_lt (pos k) (pos 0))) (int_lt (pos k) (pos n)) is).1
axis_below n (negsuc k) is = absurd (false≢true is)
