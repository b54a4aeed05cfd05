-- The least and the greatest of numbers: two reductions with the same proofs.
use Rattle.std.specs.Prelude.{◌≡◌, ◌<◌, ◌≤◌, ◌^◌, ℕ, ℤ, pos, true, false, Bool, List, [], ◌∷◌, ◌++◌, length, int_lt}
use Rattle.std.proofs.Common.{suc, cond, refl, sym, ap, subst, ◌∙◌, arith}
use Rattle.reductions.specs.Words.{int_min, int_max, fold, int_eq, lt-ltb, ints, clamps, fold-append, Little, Eight, Scalar, Int, size, integer, little, Red, Minimum, Maximum, ArgMin, ArgMax}
use Rattle.reductions.specs.Reductions.{least, greatest, first_place, result_scalar}
use Rattle.reductions.specs.inside.Numbers.{IsStored, IsReduced}
use Rattle.reductions.specs.inside.FoldLaws.{wide_total, little_size}

-- ---- least or greatest

abbrev pub reduction_of : Bool → Red
reduction_of false = Minimum
reduction_of true = Maximum

abbrev pub places_of : Bool → Red
places_of false = ArgMin
places_of true = ArgMax

abbrev pub best_of : Bool → List ℤ → ℤ
best_of false = least
best_of true = greatest

-- the better of two numbers, and whether a number is better than the best one so far
abbrev pub better : Bool → ℤ → ℤ → ℤ
better false = int_min
better true = int_max

abbrev pub is_better : Bool → ℤ → ℤ → Bool
is_better false z best = int_lt z best
is_better true z best = int_lt best z

-- ---- one more number

pub better-one : (greatest : Bool) (best z : ℤ) → is_better greatest z best ≡ true → z ≡ better greatest best z
better-one false best z is = omega (arith, ints, clamps)
better-one true best z is = omega (arith, ints, clamps)

pub better-none : (greatest : Bool) (best z : ℤ) → is_better greatest z best ≡ false → best ≡ better greatest best z
better-none false best z worse = omega (arith, ints, clamps)
better-none true best z worse = omega (arith, ints, clamps)

pub better_kept : (greatest : Bool) (best z first : ℤ) (seen : List ℤ) → best ≡ fold (better greatest) first seen → is_better greatest z best ≡ true → z ≡ fold (better greatest) first (seen ++ z ∷ [])
better_kept greatest best z first seen held is = better-one greatest best z is ∙ ap (λ b. better greatest b z) held ∙ sym (fold-append (better greatest) first seen (z ∷ []))

pub better_left : (greatest : Bool) (best z first : ℤ) (seen : List ℤ) → best ≡ fold (better greatest) first seen → is_better greatest z best ≡ false → best ≡ fold (better greatest) first (seen ++ z ∷ [])
better_left greatest best z first seen held worse = better-none greatest best z worse ∙ ap (λ b. better greatest b z) held ∙ sym (fold-append (better greatest) first seen (z ∷ []))

-- ---- all numbers, the first of which is visited twice

same_least : (first : ℤ) → int_min first first ≡ first
same_least first = omega (arith, ints, clamps)

same_greatest : (first : ℤ) → int_max first first ≡ first
same_greatest first = omega (arith, ints, clamps)

pub best_from : (greatest : Bool) (first : ℤ) (rest : List ℤ) → fold (better greatest) first (first ∷ rest) ≡ best_of greatest (first ∷ rest)
best_from false first rest = ap (λ z. fold int_min z rest) (same_least first)
best_from true first rest = ap (λ z. fold int_max z rest) (same_greatest first)

-- ---- places, which are read as signed integers

signed_place : (bytes : List ℕ) (n : ℕ) → n < 2 ^ 63 → IsStored (Int false Eight Little) (pos n) bytes → IsStored (Int true Eight Little) (pos n) bytes
signed_place bytes n few is =
    let same : integer true 8 n ≡ pos n = rw (lt-ltb n (2 ^ 63) few) refl in
    subst (λ z. IsStored (Int true Eight Little) z bytes) same (wide_total true bytes n (omega (arith, few)) is)

first_place-le : (value : ℤ) (numbers : List ℤ) → first_place value numbers ≤ length numbers
first_place-le value [] = omega arith
first_place-le value (first ∷ numbers) =
    elim (int_eq first value) as (λ t. cond t 0 (suc (first_place value numbers)) ≤ suc (length numbers)) [
      | true ↦ omega arith
      | false ↦ omega (arith, first_place-le value numbers)
    ]

first_place-lt : (value : ℤ) (numbers : List ℤ) → length numbers < 2 ^ 63 → first_place value numbers < 2 ^ 63
first_place-lt value numbers few = omega (arith, few, first_place-le value numbers)

pub place_is : (greatest : Bool) (scalar : Scalar) (bytes : List ℕ) (numbers : List ℤ) → length numbers < 2 ^ 63 → IsStored (Int false Eight Little) (pos (first_place (best_of greatest numbers) numbers)) bytes → IsReduced (places_of greatest) scalar numbers bytes
place_is false scalar bytes numbers few is = signed_place bytes (first_place (least numbers) numbers) (first_place-lt (least numbers) numbers few) is
place_is true scalar bytes numbers few is = signed_place bytes (first_place (greatest numbers) numbers) (first_place-lt (greatest numbers) numbers few) is

pub place_size : (greatest : Bool) (scalar : Scalar) → size (result_scalar (places_of greatest) scalar) ≡ 8
place_size false scalar = refl
place_size true scalar = refl

-- ---- results, which are little-endian

pub best_is : (greatest : Bool) (scalar kept : Scalar) (bytes : List ℕ) (numbers : List ℤ) → little scalar ≡ kept → IsStored kept (best_of greatest numbers) bytes → IsReduced (reduction_of greatest) scalar numbers bytes
best_is false scalar kept bytes numbers same is = subst (λ s. IsStored s (least numbers) bytes) (sym same) is
best_is true scalar kept bytes numbers same is = subst (λ s. IsStored s (greatest numbers) bytes) (sym same) is

pub best_size : (greatest : Bool) (scalar : Scalar) (width : ℕ) → size scalar ≡ width → size (result_scalar (reduction_of greatest) scalar) ≡ width
best_size false scalar width is = little_size scalar ∙ is
best_size true scalar width is = little_size scalar ∙ is
