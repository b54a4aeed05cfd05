-- States that no further number can change.
use Rattle.std.proofs.Common.{◌≡◌, inl, inr, ℕ, ℤ, pos, Bool, true, false, cond, List, [], ◌∷◌, ◌++◌, refl, sym, ap, subst, ◌∙◌, arith, int_lt, nat_eq}
use Rattle.reductions.proofs.Words.{fold, beq, false≢true, false_from_ne_true, ints, Scalar, Byte, Int, Bytes, IsValueOf, is_bool, BoolScalar, bit, is_true, better, is_better, better-none, HasFound, better_passed, number_at, numbers_at}

-- ---- bools

is_bit : (n : ℕ) → IsValueOf BoolScalar (pos (bit n))
is_bit n = elim (nat_eq n 0) as (λ t. IsValueOf BoolScalar (pos (cond t 0 1))) [ true ↦ inl refl | false ↦ inr refl ]

bit_at : (scalar : Scalar) (bytes : List ℕ) (offset : ℕ) → is_bool scalar ≡ true → IsValueOf BoolScalar (number_at scalar bytes offset)
bit_at BoolScalar bytes offset is = is_bit _
bit_at (Byte signed) bytes offset is = absurd (false≢true is)
bit_at (Int signed width order) bytes offset is = absurd (false≢true is)
bit_at (Bytes n) bytes offset is = absurd (false≢true is)

last_bit : (greatest : Bool) (z x : ℤ) → beq (is_true z) greatest ≡ true → IsValueOf BoolScalar z → IsValueOf BoolScalar x → is_better greatest x z ≡ false
last_bit true z x is (inl low) x_bit = absurd (false≢true (ap (λ w. beq (is_true w) true) (sym low) ∙ is))
last_bit true z x is (inr high) (inl none) = λ i. int_lt (high i) (none i)
last_bit true z x is (inr high) (inr one) = λ i. int_lt (high i) (one i)
last_bit false z x is (inl low) (inl none) = λ i. int_lt (none i) (low i)
last_bit false z x is (inl low) (inr one) = λ i. int_lt (one i) (low i)
last_bit false z x is (inr high) x_bit = absurd (false≢true (ap (λ w. beq (is_true w) false) (sym high) ∙ is))

pub none_better : (greatest : Bool) (scalar : Scalar) (bytes : List ℕ) (offset : ℕ) (z : ℤ) → is_bool scalar ≡ true → beq (is_true z) greatest ≡ true → IsValueOf BoolScalar z → is_better greatest (number_at scalar bytes offset) z ≡ false
none_better greatest scalar bytes offset z bools is z_bit = last_bit greatest z (number_at scalar bytes offset) is z_bit (bit_at scalar bytes offset bools)

-- ---- the best number, if none can be better

not_better : (greatest : Bool) (z : ℤ) → is_better greatest z z ≡ false
not_better false z = false_from_ne_true (int_lt z z) (λ is. omega (arith, ints, is))
not_better true z = false_from_ne_true (int_lt z z) (λ is. omega (arith, ints, is))

module _ (greatest : Bool) (best : ℤ) (scalar : Scalar) (bytes : List ℕ) (last : (offset : ℕ) → is_better greatest (number_at scalar bytes offset) best ≡ false) where
  pub best-stays : (offsets : List ℕ) → best ≡ fold (better greatest) best (numbers_at scalar bytes offsets)
  best-stays [] = refl
  best-stays (offset ∷ offsets) =
      best-stays offsets ∙ ap (λ z. fold (better greatest) z (numbers_at scalar bytes offsets)) (better-none greatest best (number_at scalar bytes offset) (last offset))

  pub found-stays : (place : ℕ) (first : ℤ) (seen : List ℤ) (offsets : List ℕ) → HasFound (better greatest) best place first seen → HasFound (better greatest) best place first (seen ++ numbers_at scalar bytes offsets)
  found-stays place first seen offsets held =
      let numbers = numbers_at scalar bytes offsets in
      better_passed greatest best (fold (better greatest) best numbers) place first seen numbers held refl
      (subst (λ z. is_better greatest z best ≡ false) (best-stays offsets) (not_better greatest best))
