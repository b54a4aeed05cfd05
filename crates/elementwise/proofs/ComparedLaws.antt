-- Comparisons and their results.
use Rattle.std.proofs.Common.{◌≡◌, ℕ, true, Ok, Err, List, [], ◌∷◌, refl, sym, subst, arith}
use Rattle.elementwise.proofs.Words.{Ordering, nat_cmp, is_lt, is_gt, slice_cmp, same_from_slice_cmp, nat_tests, Refusal, NotForThisKind, Scalar, Byte, Int, Bytes, Descr, IsNumber, little, same_answer, check_passed, check_test, common_shape, BoolScalar, ScalarDescr, AreComparable, text_below, can_cast_scalar, compared_type, scalar_of, compared_result}

-- ---- byte strings

pub below-cmp : (xs ys : List ℕ) (o : Ordering) → o ≡ slice_cmp nat_cmp xs ys → is_lt o ≡ text_below xs ys
below-cmp = same_from_slice_cmp nat_cmp is_lt text_below refl (λ _ _. refl) (λ _ _. refl) (λ x y xs ys o h. grind (arith, nat_tests))

pub above-cmp : (xs ys : List ℕ) (o : Ordering) → o ≡ slice_cmp nat_cmp xs ys → is_gt o ≡ text_below ys xs
above-cmp = same_from_slice_cmp nat_cmp is_gt (λ xs ys. text_below ys xs) refl (λ _ _. refl) (λ _ _. refl) (λ x y xs ys o h. grind (arith, nat_tests))

-- ---- types

-- a comparison gives bools
pub compared_bools : (l r s : Scalar) → compared_type l r ≡ Ok s → (can_cast_scalar l r ≡ true) × (s ≡ BoolScalar)
unfolding compared_type
compared_bools l r s found =
    (check_test (can_cast_scalar l r) NotForThisKind (Ok BoolScalar) s found, sym (same_answer BoolScalar s (check_passed (can_cast_scalar l r) NotForThisKind (Ok BoolScalar) s found)))

-- element types with these scalars
pub comparable_scalars : (d d' : Descr) (a b : Scalar) → d ≡ ScalarDescr a → d' ≡ ScalarDescr b → can_cast_scalar a b ≡ true → AreComparable d d'
comparable_scalars d d' a b is is' can = subst (λ e. AreComparable e d') (sym is) (subst (AreComparable (ScalarDescr a)) (sym is') can)

-- numbers can be compared with those of the same scalar in little-endian order
pub comparable_numbers : (a : Scalar) → IsNumber a → can_cast_scalar a (little a) ≡ true
comparable_numbers BoolScalar is = refl
comparable_numbers (Byte signed) is = refl
comparable_numbers (Int signed width order) is = refl
comparable_numbers (Bytes n) never = absurd never

-- ---- results

module _ (l : Descr) (shape : List ℕ) (r : Descr) (other : List ℕ) where
  pub left_refused : (e : Refusal) → scalar_of l ≡ Err e → compared_result l shape r other ≡ Err e
  unfolding compared_result
  left_refused e is = rw is refl

  pub right_refused : (a : Scalar) (e : Refusal) → scalar_of l ≡ Ok a → scalar_of r ≡ Err e → compared_result l shape r other ≡ Err e
  unfolding compared_result
  right_refused a e is is' = rw (is, is') refl

  pub type_refused : (a b : Scalar) (e : Refusal) → scalar_of l ≡ Ok a → scalar_of r ≡ Ok b → compared_type a b ≡ Err e → compared_result l shape r other ≡ Err e
  unfolding compared_result
  type_refused a b e is is' there = rw (is, is', there) refl

  pub shapes_refused : (a b s : Scalar) (e : Refusal) → scalar_of l ≡ Ok a → scalar_of r ≡ Ok b → compared_type a b ≡ Ok s → common_shape (shape ∷ other ∷ []) ≡ Err e → compared_result l shape r other ≡ Err e
  unfolding compared_result
  shapes_refused a b s e is is' there common = rw (is, is', there, common) refl

  pub all_given : (a b s : Scalar) (c : List ℕ) → scalar_of l ≡ Ok a → scalar_of r ≡ Ok b → compared_type a b ≡ Ok s → common_shape (shape ∷ other ∷ []) ≡ Ok c → compared_result l shape r other ≡ Ok (ScalarDescr s, c)
  unfolding compared_result
  all_given a b s c is is' there common = rw (is, is', there, common) refl
